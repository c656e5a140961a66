use Rattle.std.proofs.Common.{◌≡◌, ◌≤◌, ℕ, List, [], ◌∷◌, ◌++◌, ◌∙◌, length, All, sym, ap, ap₂, subst, arith}
use Rattle.std.proofs.lemmas.List.{take_more, take_all}
use Rattle.std.proofs.lemmas.List.Elements.{All-push}
use Rattle.tsn_model.specs.Network.{stream_count}
use Rattle.tsn_branch.specs.Releases.{releases_of}
use Rattle.tsn_branch.proofs.Leasts.{released_at, length-releases}
use Rattle.tsn_branch.proofs.arcs.net_of.Goals as goal

pub loop-stream-preserved : goal.loop-stream-preserved
loop-stream-preserved c =
    let network = c.args.timing.now in
    let last = c.loop-stream.invariant.end in
    let before = c.loop-stream-test.true in
    let long = length-releases network in
    record {
      copied =
          c.in_ok-push.ensures.items
          ∙ (ap₂ (λ (xs : List ℕ) (x : ℕ). xs ++ x ∷ []) c.loop-stream.invariant.copied (c.release.ensures.value ∙ sym (released_at network c.loop-stream.stream))
          ∙ sym (take_more (releases_of network) c.loop-stream.stream 0 (omega arith)));
      early = subst (All (λ release. release ≤ 1000000000)) (sym c.in_ok-push.ensures.items)
          (All-push (λ release. release ≤ 1000000000) c.loop-stream.releases.items c.release.result c.loop-stream.invariant.early c.release.ensures.bound);
      end = c.loop-stream.invariant.end;
    }

pub released-requires-clause-few : goal.released-requires-clause-few
released-requires-clause-few c =
    let network = c.args.timing.now in
    let whole : c.loop-stream.releases.items ≡ releases_of network =
    c.loop-stream.invariant.copied ∙ take_all c.loop-stream.stream (releases_of network) (let long = length-releases network in let last = c.loop-stream.invariant.end in let past = c.loop-stream-test.false in omega arith) in
    let same : length c.loop-stream.releases.items ≡ stream_count network = ap length whole ∙ length-releases network in
    let few = c.requires in
    let count = c.streams-stream-end.ensures.value in
    omega arith

pub returns : goal.returns
returns c =
    let network = c.args.timing.now in
    c.released.ensures ∙ c.loop-stream.invariant.copied
    ∙ take_all c.loop-stream.stream (releases_of network) (let long = length-releases network in let last = c.loop-stream.invariant.end in let past = c.loop-stream-test.false in omega arith)

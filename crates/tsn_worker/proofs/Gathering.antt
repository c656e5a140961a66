-- What tellers have gathered, by the seat that was closed.
use Rattle.std.proofs.Common.{◌≡◌, ℕ, List, [], ◌∷◌, map, refl, sym, ap, ◌∙◌, subst}
use Rattle.std.specs.Prelude.{◌≤◌, All}
use Rattle.std.proofs.lemmas.List.Elements.{All-nil, All-cons, All-head, All-tail}
use Rattle.tsn_model.specs.Network.{Network}
use Rattle.tsn_model.specs.Certificate.{beyond}
use Rattle.tsn_model.specs.Core.{IsSound, IsQuiet}
use Rattle.tsn_model.specs.Search.{Settlement, tally_of, best_bound, open_paths}
use Rattle.tsn_incumbent.specs.declared.standing.Standing.{Standing}
use Rattle.tsn_incumbent.specs.Standings.{Ended, Race}
use Rattle.tsn_book.specs.Book.{Progress}
use Rattle.tsn_incumbent.specs.Names.{Names, IsBookOf}
use Rattle.tsn_incumbent.specs.Teller.{Known}
use Rattle.tsn_incumbent.specs.Gathered.{standings_of, Agrees, state_of}
use Rattle.tsn_worker.specs.Gathered.{AreBack, IsGathered, tellers_by}

abbrev known_by : Network → List Settlement → Standing → Known
known_by network history standing = record { standing = standing; tally = tally_of network standing.number history }

-- a teller that agrees with the history is what its standing and the history say
same : (network : Network) (history : List Settlement) (tellers : List Known) → All (Agrees network history) tellers
    → map (known_by network history) (standings_of tellers) ≡ tellers
same network history [] agree = refl
same network history (t ∷ ts) agree =
    let here = (All-head (Agrees network history) t ts agree).share in
    let rest = same network history ts (All-tail (Agrees network history) t ts agree) in
    λ i. record { standing = t.standing; tally = sym here i } ∷ rest i

pruned : (network : Network) (history : List Settlement) (tellers : List Known) → All (Agrees network history) tellers
    → All (λ (t : Known). beyond network t.standing.seen ≤ t.tally.pruned) tellers
pruned network history [] agree = All-nil (λ (t : Known). beyond network t.standing.seen ≤ t.tally.pruned)
pruned network history (t ∷ ts) agree =
    All-cons (λ (u : Known). beyond network u.standing.seen ≤ u.tally.pruned) t ts (All-head (Agrees network history) t ts agree).pruned
    (pruned network history ts (All-tail (Agrees network history) t ts agree))

-- the tellers of the closed seat are those that came back
pub gathers : (names : Names) (ended : Ended) (book : Progress) (tellers : List Known) → ended.seat.race ≡ names.race
    → ended.seat.standings ≡ standings_of tellers → IsBookOf names book → AreBack names.race.tellers tellers
    → All (Agrees names.race.network book.history) tellers
    → ended.word ≡ best_bound names.race.network book.history → IsSound names.race.network (state_of ended.word tellers book.history)
    → (open_paths book.history ≡ [] → IsQuiet (state_of ended.word tellers book.history)) → IsGathered ended book
gathers names ended book tellers race standings of back agree least sound quiet =
    let network : ended.seat.race.network ≡ names.race.network = ap (λ (r : Race). r.network) race in
    let these : tellers_by ended book.history ≡ tellers =
    (λ i. map (known_by (network i) book.history) (standings i)) ∙ same names.race.network book.history tellers agree in
    let count : names.race.tellers ≡ ended.seat.race.tellers = sym (ap (λ (r : Race). r.tellers) race) in
    let ours : names.race.network ≡ book.network = sym of.network in
    record {
      network = of.network ∙ sym network;
      back = subst (λ n. AreBack n (tellers_by ended book.history)) count (subst (AreBack names.race.tellers) (sym these) back);
      pruned = subst (λ (ts : List Known). All (λ (t : Known). beyond book.network t.standing.seen ≤ t.tally.pruned) ts) (sym these)
          (pruned book.network book.history tellers (subst (λ n. All (Agrees n book.history) tellers) ours agree));
      least = least ∙ ap (λ n. best_bound n book.history) ours;
      sound = subst (λ (ts : List Known). IsSound book.network (state_of ended.word ts book.history)) (sym these)
          (subst (λ n. IsSound n (state_of ended.word tellers book.history)) ours sound);
      quiet = λ none. subst (λ (ts : List Known). IsQuiet (state_of ended.word ts book.history)) (sym these) (quiet none);
    }

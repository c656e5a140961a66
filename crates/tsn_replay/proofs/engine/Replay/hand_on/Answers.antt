use Rattle.std.proofs.Common.{ℕ, List, Vec, Global, All, ◌+◌, ◌-◌, ◌*◌, ◌≤◌, ◌<◌, ◌^◌, length, sym, ap, ◌∙◌, subst, arith}
use Rattle.std.proofs.lemmas.List.Elements.{All-set}
use Rattle.tsn_model.specs.Network.{Network, stream_count, hop_count}
use Rattle.tsn_model.proofs.Limits.{hops-le}
use Rattle.tsn_replay.specs.declared.queue.Frame.{Frame}
use Rattle.tsn_replay.specs.Queue.{frame_in}
use Rattle.tsn_replay.specs.declared.queue.Stage.TheVariants.{Coming}
use Rattle.tsn_replay.specs.Progress.{left}
use Rattle.tsn_replay.proofs.Steps.{read_frame}
use Rattle.tsn_replay.proofs.Handing.{IsHandedUpto, handed_all, read_hop, read_hops, block_few, read_begin, read_skip, item_within, item_stream, item_sooner, item_more}
use Rattle.tsn_replay.proofs.engine.Replay.hand_on.Goals as goal
use Rattle.tsn_replay.proofs.engine.Replay.hand_on.Goals.{then-continues, else-continues}

counted_at : (network : Network) (frames : List Frame) (number : ℕ) → number < length frames
    → All (λ (f : Frame). f.stream < stream_count network) frames → (frame_in frames number).stream < stream_count network
unfolding frame_in
counted_at network frames number below streams =
    streams number (record { stream = 0; hop = 0; shift = 0; cycle = 0; stage = Coming; ready = 0; rank = 0 }) below

pub overflow_mul-block : goal.overflow_mul-block
overflow_mul-block c =
    let network = c.args.self.now.network.now in
    let frames = c.args.frames.now.items in
    let number = c.args.number in
    let is = read_frame frames number c.index.result.now c.requires.number c.index.ensures in
    let counted = counted_at network frames number c.requires.number c.requires.streams in
    let few = block_few c.args.self.now.network.now c.requires.setting.formed c.args.self.now.slack
    c.args.self.now.cycles c.args.frames.now.items c.requires.line c.requires.distinct c.args.number c.args.time
    c.requires.number counted c.index.result.now is c.frame_count.result c.frame_count.ensures in
    omega arith

pub overflow_step-hop : goal.overflow_step-hop
overflow_step-hop c =
    let network = c.args.self.now.network.now in
    let frames = c.args.frames.now.items in
    let number = c.args.number in
    let is = read_frame frames number c.index.result.now c.requires.number c.index.ensures in
    let counted = counted_at network frames number c.requires.number c.requires.streams in
    let hop = read_hop c.args.self.now.network.now c.requires.setting.formed c.args.self.now.slack c.args.self.now.cycles
    c.args.frames.now.items c.requires.line c.requires.distinct c.args.number c.args.time c.requires.number
    counted c.index.result.now is c.frame_count.result c.frame_count.ensures in
    let same = read_hops c.args.self.now.network.now c.requires.setting.formed c.args.self.now.slack
    c.args.self.now.cycles c.args.frames.now.items c.requires.line c.requires.distinct c.args.number c.args.time
    c.requires.number counted c.index.result.now is c.frame_count.result c.frame_count.ensures in
    let few = hops-le network c.requires.setting.formed (frame_in frames number).stream counted in
    omega arith

pub loop-hop-init : goal.loop-hop-init
loop-hop-init c =
    let network = c.args.self.now.network.now in
    let frames = c.args.frames.now.items in
    let number = c.args.number in
    let is = read_frame frames number c.index.result.now c.requires.number c.index.ensures in
    let counted = counted_at network frames number c.requires.number c.requires.streams in
    record {
      handed = read_begin c.args.self.now.network.now c.requires.setting.formed c.args.self.now.slack
          c.args.self.now.cycles c.args.frames.now.items c.requires.line c.requires.distinct c.args.number
          c.args.time c.requires.number counted c.index.result.now is c.frame_count.result c.frame_count.ensures;
      ready = All-set (λ (f : Frame). f.ready ≤ 2 ^ 50) frames number (left c.index.result.now)
          (let early = c.requires.ready number c.index.result.now c.requires.number in let same =
          ap (λ (f : Frame). f.ready) c.index.ensures in omega arith) c.requires.ready;
      last = c.hops-hop-end.ensures.value
          ∙ read_hops c.args.self.now.network.now c.requires.setting.formed c.args.self.now.slack c.args.self.now.cycles
          c.args.frames.now.items c.requires.line c.requires.distinct c.args.number c.args.time c.requires.number
          counted c.index.result.now is c.frame_count.result c.frame_count.ensures;
    }

pub overflow_mul-other : goal.overflow_mul-other
overflow_mul-other c =
    let network = c.args.self.now.network.now in
    let frames = c.args.frames.now.items in
    let number = c.args.number in
    let is = read_frame frames number c.index.result.now c.requires.number c.index.ensures in
    let counted = counted_at network frames number c.requires.number c.requires.streams in
    let last = c.loop-hop.invariant.last in
    let inside : c.loop-hop.hop < hop_count network (frame_in frames number).stream = omega arith in
    let continues = c.continues.ensures.0 c.if-continues.true in
    let within = item_within c.args.self.now.network.now c.requires.setting.formed c.args.self.now.slack
    c.args.self.now.cycles c.args.frames.now.items c.requires.line c.requires.distinct c.args.number c.args.time
    c.requires.number counted c.index.result.now is c.frame_count.result c.frame_count.ensures c.loop-hop.hop
    c.loop-hop.frames.items c.loop-hop.invariant.handed inside continues in
    omega arith

pub overflow_add-other : goal.overflow_add-other
overflow_add-other c =
    let network = c.args.self.now.network.now in
    let frames = c.args.frames.now.items in
    let number = c.args.number in
    let is = read_frame frames number c.index.result.now c.requires.number c.index.ensures in
    let counted = counted_at network frames number c.requires.number c.requires.streams in
    let last = c.loop-hop.invariant.last in
    let inside : c.loop-hop.hop < hop_count network (frame_in frames number).stream = omega arith in
    let continues = c.continues.ensures.0 c.if-continues.true in
    let within = item_within c.args.self.now.network.now c.requires.setting.formed c.args.self.now.slack
    c.args.self.now.cycles c.args.frames.now.items c.requires.line c.requires.distinct c.args.number c.args.time
    c.requires.number counted c.index.result.now is c.frame_count.result c.frame_count.ensures c.loop-hop.hop
    c.loop-hop.frames.items c.loop-hop.invariant.handed inside continues in
    omega arith

pub index-requires-then-continues : goal.index-requires-then-continues
index-requires-then-continues c =
    let network = c.args.self.now.network.now in
    let frames = c.args.frames.now.items in
    let number = c.args.number in
    let is = read_frame frames number c.index.result.now c.requires.number c.index.ensures in
    let counted = counted_at network frames number c.requires.number c.requires.streams in
    let last = c.loop-hop.invariant.last in
    let inside : c.loop-hop.hop < hop_count network (frame_in frames number).stream = omega arith in
    let continues = c.continues.ensures.0 c.if-continues.true in
    let within = item_within c.args.self.now.network.now c.requires.setting.formed c.args.self.now.slack
    c.args.self.now.cycles c.args.frames.now.items c.requires.line c.requires.distinct c.args.number c.args.time
    c.requires.number counted c.index.result.now is c.frame_count.result c.frame_count.ensures c.loop-hop.hop
    c.loop-hop.frames.items c.loop-hop.invariant.handed inside continues in
    omega arith

pub haste-haste-requires-clause-stream : goal.haste-haste-requires-clause-stream
haste-haste-requires-clause-stream c =
    let network = c.args.self.now.network.now in
    let frames = c.args.frames.now.items in
    let number = c.args.number in
    let is = read_frame frames number c.index.result.now c.requires.number c.index.ensures in
    let counted = counted_at network frames number c.requires.number c.requires.streams in
    let last = c.loop-hop.invariant.last in
    let inside : c.loop-hop.hop < hop_count network (frame_in frames number).stream = omega arith in
    let continues = c.continues.ensures.0 c.if-continues.true in
    let within = item_within c.args.self.now.network.now c.requires.setting.formed c.args.self.now.slack
    c.args.self.now.cycles c.args.frames.now.items c.requires.line c.requires.distinct c.args.number c.args.time
    c.requires.number counted c.index.result.now is c.frame_count.result c.frame_count.ensures c.loop-hop.hop
    c.loop-hop.frames.items c.loop-hop.invariant.handed inside continues in
    item_stream c.args.self.now.network.now c.requires.setting.formed c.args.self.now.slack c.args.self.now.cycles
    c.args.frames.now.items c.requires.line c.requires.distinct c.args.number c.args.time c.requires.number
    counted c.index.result.now is c.frame_count.result c.frame_count.ensures c.loop-hop.hop c.loop-hop.frames.items
    c.loop-hop.invariant.handed inside continues c.index-then-continues.result.now
    (read_frame c.loop-hop.frames.items _ c.index-then-continues.result.now within c.index-then-continues.ensures)

pub arrive-come-requires-clause-number : goal.arrive-come-requires-clause-number
arrive-come-requires-clause-number c =
    let network = c.args.self.now.network.now in
    let frames = c.args.frames.now.items in
    let number = c.args.number in
    let is = read_frame frames number c.index.result.now c.requires.number c.index.ensures in
    let counted = counted_at network frames number c.requires.number c.requires.streams in
    let last = c.loop-hop.invariant.last in
    let inside : c.loop-hop.hop < hop_count network (frame_in frames number).stream = omega arith in
    let continues = c.continues.ensures.0 c.if-continues.true in
    let within = item_within c.args.self.now.network.now c.requires.setting.formed c.args.self.now.slack
    c.args.self.now.cycles c.args.frames.now.items c.requires.line c.requires.distinct c.args.number c.args.time
    c.requires.number counted c.index.result.now is c.frame_count.result c.frame_count.ensures c.loop-hop.hop
    c.loop-hop.frames.items c.loop-hop.invariant.handed inside continues in
    let same = ap length c.deref.ensures.value in
    omega arith

pub arrive-come-requires-clause-stream : goal.arrive-come-requires-clause-stream
arrive-come-requires-clause-stream c =
    let network = c.args.self.now.network.now in
    let frames = c.args.frames.now.items in
    let number = c.args.number in
    let is = read_frame frames number c.index.result.now c.requires.number c.index.ensures in
    let counted = counted_at network frames number c.requires.number c.requires.streams in
    let last = c.loop-hop.invariant.last in
    let inside : c.loop-hop.hop < hop_count network (frame_in frames number).stream = omega arith in
    let continues = c.continues.ensures.0 c.if-continues.true in
    item_stream c.args.self.now.network.now c.requires.setting.formed c.args.self.now.slack c.args.self.now.cycles
    c.args.frames.now.items c.requires.line c.requires.distinct c.args.number c.args.time c.requires.number
    counted c.index.result.now is c.frame_count.result c.frame_count.ensures c.loop-hop.hop c.loop-hop.frames.items
    c.loop-hop.invariant.handed inside continues
    (frame_in c.deref.result.now (number + (c.loop-hop.hop - c.index.result.now.hop) * (c.frame_count.result * c.args.self.now.cycles)))
    (ap (λ fs. frame_in fs (number + (c.loop-hop.hop - c.index.result.now.hop) * (c.frame_count.result * c.args.self.now.cycles)))
    c.deref.ensures.value)

pub arrive-come-requires-clause-sooner : goal.arrive-come-requires-clause-sooner
arrive-come-requires-clause-sooner c =
    let network = c.args.self.now.network.now in
    let frames = c.args.frames.now.items in
    let number = c.args.number in
    let is = read_frame frames number c.index.result.now c.requires.number c.index.ensures in
    let counted = counted_at network frames number c.requires.number c.requires.streams in
    let last = c.loop-hop.invariant.last in
    let inside : c.loop-hop.hop < hop_count network (frame_in frames number).stream = omega arith in
    let continues = c.continues.ensures.0 c.if-continues.true in
    item_sooner c.args.self.now.network.now c.requires.setting.formed c.args.self.now.slack c.args.self.now.cycles
    c.args.frames.now.items c.requires.line c.requires.distinct c.args.number c.args.time c.requires.number
    counted c.index.result.now is c.frame_count.result c.frame_count.ensures c.loop-hop.hop c.loop-hop.frames.items
    c.loop-hop.invariant.handed inside continues c.requires.sooner c.deref.result.now c.deref.ensures.value

pub index_mut-requires-then-continues : goal.index_mut-requires-then-continues
index_mut-requires-then-continues c =
    let network = c.args.self.now.network.now in
    let frames = c.args.frames.now.items in
    let number = c.args.number in
    let is = read_frame frames number c.index.result.now c.requires.number c.index.ensures in
    let counted = counted_at network frames number c.requires.number c.requires.streams in
    let last = c.loop-hop.invariant.last in
    let inside : c.loop-hop.hop < hop_count network (frame_in frames number).stream = omega arith in
    let continues = c.continues.ensures.0 c.if-continues.true in
    let within = item_within c.args.self.now.network.now c.requires.setting.formed c.args.self.now.slack
    c.args.self.now.cycles c.args.frames.now.items c.requires.line c.requires.distinct c.args.number c.args.time
    c.requires.number counted c.index.result.now is c.frame_count.result c.frame_count.ensures c.loop-hop.hop
    c.loop-hop.frames.items c.loop-hop.invariant.handed inside continues in
    omega arith

pub loop-hop-preserved : goal.loop-hop-preserved
loop-hop-preserved c =
    let network = c.args.self.now.network.now in
    let frames = c.args.frames.now.items in
    let number = c.args.number in
    let is = read_frame frames number c.index.result.now c.requires.number c.index.ensures in
    let counted = counted_at network frames number c.requires.number c.requires.streams in
    let last = c.loop-hop.invariant.last in
    let inside : c.loop-hop.hop < hop_count network (frame_in frames number).stream = omega arith in
    elim c.if-continues.branch [
      | then-continues w ↦
          let continues = c.continues.ensures.0 w.if-continues.true in
          record {
            handed = subst (λ (v : Vec Frame Global).
                IsHandedUpto network c.args.self.now.slack frames number c.args.time (c.loop-hop.hop + 1) v.items) (sym w.frames-is)
                (item_more c.args.self.now.network.now c.requires.setting.formed c.args.self.now.slack
                c.args.self.now.cycles c.args.frames.now.items c.requires.line c.requires.distinct c.args.number
                c.args.time c.requires.number counted c.index.result.now is c.frame_count.result c.frame_count.ensures
                c.loop-hop.hop c.loop-hop.frames.items c.loop-hop.invariant.handed inside continues w.deref.result.now
                w.deref.ensures.value w.haste-haste.result.slack w.haste-haste.ensures w.arrive-come.result w.arrive-come.ensures.turn);
            ready = subst (λ (v : Vec Frame Global). All (λ (f : Frame). f.ready ≤ 2 ^ 50) v.items) (sym w.frames-is)
                (All-set (λ (f : Frame). f.ready ≤ 2 ^ 50) c.loop-hop.frames.items
                (number + (c.loop-hop.hop - c.index.result.now.hop) * (c.frame_count.result * c.args.self.now.cycles))
                w.arrive-come.result w.arrive-come.ensures.ready c.loop-hop.invariant.ready);
            last = last;
          }
      | else-continues w ↦ record {
        handed = subst (λ (v : Vec Frame Global).
            IsHandedUpto network c.args.self.now.slack frames number c.args.time (c.loop-hop.hop + 1) v.items) (sym w.frames-is)
            (read_skip c.args.self.now.network.now c.requires.setting.formed c.args.self.now.slack c.args.self.now.cycles
            c.args.frames.now.items c.requires.line c.requires.distinct c.args.number c.args.time c.requires.number
            counted c.index.result.now is c.frame_count.result c.frame_count.ensures c.loop-hop.hop
            c.loop-hop.frames.items c.loop-hop.invariant.handed
            (λ continues. let yes = c.continues.ensures.1 continues in let no = w.if-continues.false in absurd cc));
        ready = subst (λ (v : Vec Frame Global). All (λ (f : Frame). f.ready ≤ 2 ^ 50) v.items)
            (sym w.frames-is) c.loop-hop.invariant.ready;
        last = last;
      }
    ]

pub returns-clause-moved : goal.returns-clause-moved
returns-clause-moved c =
    let network = c.args.self.now.network.now in
    let frames = c.args.frames.now.items in
    let number = c.args.number in
    let is = read_frame frames number c.index.result.now c.requires.number c.index.ensures in
    let counted = counted_at network frames number c.requires.number c.requires.streams in
    let last = c.loop-hop.invariant.last in
    let hop = read_hop c.args.self.now.network.now c.requires.setting.formed c.args.self.now.slack c.args.self.now.cycles
    c.args.frames.now.items c.requires.line c.requires.distinct c.args.number c.args.time c.requires.number
    counted c.index.result.now is c.frame_count.result c.frame_count.ensures in
    let same = read_hops c.args.self.now.network.now c.requires.setting.formed c.args.self.now.slack
    c.args.self.now.cycles c.args.frames.now.items c.requires.line c.requires.distinct c.args.number c.args.time
    c.requires.number counted c.index.result.now is c.frame_count.result c.frame_count.ensures in
    let upto = c.loop-hop.auto.hop-end in
    handed_all c.args.self.now.network.now c.requires.setting.formed c.args.self.now.slack c.args.self.now.cycles
    c.args.frames.now.items c.requires.line c.requires.distinct c.args.number c.args.time c.requires.number
    counted c.loop-hop.hop c.loop-hop.frames.items (omega arith) c.loop-hop.invariant.handed

pub haste-haste-requires-clause-setting : goal.haste-haste-requires-clause-setting
haste-haste-requires-clause-setting c = c.requires.setting

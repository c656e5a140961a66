use Rattle.std.proofs.Common.{◌+◌, ◌<◌, ◌^◌, ◌++◌, All, map, refl, sym, ap, ap₂, ◌≡◌, ◌∙◌, subst, arith}
use Rattle.std.specs.Global.{Vec}
use Rattle.tsn_model.proofs.Routes.{UsesLink-counted}
use Rattle.tsn_gate.specs.declared.windows.Window.{Window}
use Rattle.tsn_gate.specs.Windows.{moved}
use Rattle.tsn_gate.proofs.Occupancies.{AreWindowsBelow, AreWindowsBelow-skip, AreWindowsBelow-more, AreWindowsOf-below, windows_from, window_order, later-fits}
use Rattle.tsn_gate.proofs.windows.stream_windows.Goals as goal
use Rattle.tsn_gate.proofs.windows.stream_windows.Goals.{in-Some+in_ok-push_windows, in_default}

pub push_windows-requires-clause-order : goal.push_windows-requires-clause-order
push_windows-requires-clause-order c =
    window_order c.args.timing.now c.args.offsets.now c.args.link c.loop-stream.stream c.in-Some.first c.in-Some.ensures.window

pub push_windows-requires-clause-fits : goal.push_windows-requires-clause-fits
push_windows-requires-clause-fits c =
    subst (All (λ shift. c.in-Some.first.end + shift < 2 ^ 64)) (sym c.shifts.ensures.value)
    (later-fits c.args.timing.now c.args.offsets.now c.args.link c.requires.formed c.requires.valid c.loop-stream.stream c.in-Some.first
    c.in-Some.ensures.window (c.in-Some.ensures.used.0 refl))

pub loop-stream-preserved : goal.loop-stream-preserved
loop-stream-preserved c =
    let network = c.args.timing.now in
    let offsets = c.args.offsets.now in
    let link = c.args.link in
    let stream = c.loop-stream.stream in
    let windows = c.loop-stream.windows.items in
    elim c.match-frame_window.branch [
      | in-Some+in_ok-push_windows w ↦
          let new : w.push_windows.new.windows.items ≡ windows ++ windows_from network offsets link stream =
          w.in_ok-push_windows.ensures ∙ ap₂ (λ first shifts. windows ++ map (moved first) shifts) w.in-Some.ensures.window w.shifts.ensures.value in
          subst (AreWindowsBelow network offsets link (stream + 1)) (sym (ap (λ (v : Vec Window). v.items) w.windows-is ∙ new))
          (AreWindowsBelow-more network offsets link c.requires.formed c.requires.valid stream windows c.loop-stream.invariant (w.in-Some.ensures.used.0 refl))
      | in_default w ↦ let u = w.in_default.ensures in
          subst (AreWindowsBelow network offsets link (stream + 1)) (sym (ap (λ (v : Vec Window). v.items) w.windows-is))
          (AreWindowsBelow-skip network offsets link stream windows c.loop-stream.invariant (λ uses. let no = u.used.1 uses in cc))
    ]

pub returns-clause-of_streams : goal.returns-clause-of_streams
returns-clause-of_streams c =
    AreWindowsOf-below c.args.timing.now c.args.offsets.now c.args.link c.loop-stream.stream c.loop-stream.windows.items
    (λ i uses. let counted = UsesLink-counted c.args.timing.now i c.args.link uses in let all = c.streams-stream-end.ensures in omega arith) c.loop-stream.invariant

use Rattle.tsn_model.proofs.OnTime.{none_tolerated, none_hold, none_hold_without, none_led, exact_run, exact_run_without}
use Rattle.tsn_laws.proofs.definitions.exact_runs_are_early_runs.Goals as goal

pub returns : goal.returns
returns c = λ network formed offsets gates. (
  none_tolerated network formed offsets,
  none_hold network offsets gates,
  none_led network formed offsets,
  none_hold_without network offsets gates,
  λ cycles run is. exact_run network formed offsets gates cycles run is,
  λ failed cycles run is. exact_run_without network formed offsets gates cycles failed run is,
)

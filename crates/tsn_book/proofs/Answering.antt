-- What is so of a value, where there is one.
use Rattle.std.specs.Prelude.{Result, Ok, Err}
use Rattle.std.specs.Result.{IfOk, OnErr}

pub ok_as : {T E : Type 0} {P Q : T → Type 0} (result : Result T E) → ((value : T) → P value → Q value) → IfOk result P → IfOk result Q
ok_as (Ok value) then is = then value is
ok_as (Err error) then is = is

pub where_err : {T E P : Type 0} (result : Result T E) → P → OnErr result P
where_err (Ok value) is = tt
where_err (Err error) is = is

-- Why a value isn't of the form.
use Rattle.std.proofs.Common.{◌≡◌, List, [], ◌∷◌, map, Bool, true, false, Option, Some, None, refl, sym, ap, ◌∙◌, String, Global, string_bytes, BTreeMap}
use Rattle.std.specs.Prelude.{is_some, cond, find, option_map, unwrap_or}
use Rattle.std.specs.BTreeMap.{keys}
use Rattle.serde_json.specs.Data.{Data}
use Rattle.serde_json.specs.Find.{as_object}
use Rattle.serde_json.specs.View.{members_view}
use Rattle.serde_json.specs.declared.value.Value.{Value}
use Rattle.tsn_cert.specs.Json.{whole_number, is_null}
use Rattle.tsn_cert.specs.declared.refused.Key.TheVariants as key
use Rattle.tsn_cert.specs.declared.refused.Misfit.{Misfit}
use Rattle.tsn_cert.specs.declared.refused.Misfit.TheVariants as misfit
use Rattle.tsn_cert.specs.declared.refused.Refused.{Refused}
use Rattle.tsn_cert.specs.declared.refused.Refused.TheVariants.{NotJson, WrongShape, NumberTooLarge, Memory}
use Rattle.tsn_codec.specs.Matter.{IsWhy, member_names, names_in, at, IsOffsetsMisfit, IsValuesMisfit, IsPlanMisfit, HasJust, plan_keys, IsRead, tree_keys, IsNodesMisfit, IsTreeMisfit, argument_keys, IsOfArgument, IsStepsMisfit, IsArgumentMisfit}
use Rattle.tsn_cert.specs.Cert.{format_of}
use Rattle.tsn_cert.specs.Argument.{goal_of}
use Rattle.tsn_cert.specs.declared.cert.Format.{Format}

pub none_of : {A : Type 0} (o : Option A) → is_some o ≡ false → o ≡ None
none_of None e = refl
none_of (Some x) e = absurd (cc)

cases_map : {A B : Type 0} (b : Bool) (f : A → B) (x : A) (r : Option B) (s : Option A) → r ≡ option_map f s
    → cond b (Some (f x)) r ≡ option_map f (cond b (Some x) s)
cases_map true f x r s h = refl
cases_map false f x r s h = h

pub find_map : {A B : Type 0} (p : B → Bool) (f : A → B) (xs : List A) → find p (map f xs) ≡ option_map f (find (λ x. p (f x)) xs)
find_map p f [] = refl
find_map p f (x ∷ xs) = cases_map (p (f x)) f x (find p (map f xs)) (find (λ y. p (f y)) xs) (find_map p f xs)

pub mapped_twice : {A B C : Type 0} (f : B → C) (g : A → B) (o : Option A) → option_map f (option_map g o) ≡ option_map (λ x. f (g x)) o
mapped_twice f g None = refl
mapped_twice f g (Some x) = refl

pub member_names-view : (es : List (String Global × Value)) → member_names (members_view es) ≡ map string_bytes (map (λ e. e.0) es)
member_names-view [] = refl
member_names-view (e ∷ es) = ap (λ names. string_bytes e.0 ∷ names) (member_names-view es)

-- the names of an object's members are a map's keys
pub names_in-view : (d : Data) (m : BTreeMap (String Global) Value) → Some (members_view m.entries) ≡ as_object d → names_in d ≡ map string_bytes (keys m)
names_in-view d m h = ap (λ o. unwrap_or (option_map member_names o) []) (sym h) ∙ member_names-view m.entries

-- what is the matter with a part is the matter with the whole
pub why_up : {P Q : Misfit → Type 0} → ((m : Misfit) → P m → Q m) → (r : Refused) → IsWhy P r → IsWhy Q r
why_up f (NotJson e) h = h
why_up f (WrongShape m) h = f m h
why_up f (NumberTooLarge e) h = h
why_up f Memory h = tt

pub offsets_up : (f o : Data) → is_null o ≡ false → IsRead (whole_number f) → (m : Misfit) → IsOffsetsMisfit o m → IsValuesMisfit f o m
offsets_up f o some read misfit.NoObject h = absurd h
offsets_up f o some read misfit.OtherFormat h = absurd h
offsets_up f o some read (misfit.Missing k) h = absurd h
offsets_up f o some read (misfit.Unknown name) h = absurd h
offsets_up f o some read misfit.OneNull h = absurd h
offsets_up f o some read misfit.OtherGoal h = absurd h
offsets_up f o some read (misfit.NoNumber k) h = absurd h
offsets_up f o some read (misfit.NoArray k) h = (some, read, h)
offsets_up f o some read (misfit.NoOffset n) h = (some, read, h)
offsets_up f o some read (misfit.NoNode n format) h = absurd h
offsets_up f o some read (misfit.NoStep n) h = absurd h
offsets_up f o some read (misfit.NoPart n it) h = absurd h

pub values_up : (d : Data) → HasJust plan_keys d → (m : Misfit) → IsValuesMisfit (at key.Flowspan d) (at key.Offsets d) m → IsPlanMisfit d m
values_up d just misfit.NoObject h = absurd h.2
values_up d just misfit.OtherFormat h = absurd h.2
values_up d just (misfit.Missing k) h = absurd h.2
values_up d just (misfit.Unknown name) h = absurd h.2
values_up d just misfit.OneNull h = (just, h)
values_up d just misfit.OtherGoal h = absurd h.2
values_up d just (misfit.NoNumber k) h = (just, h)
values_up d just (misfit.NoArray k) h = (just, h)
values_up d just (misfit.NoOffset n) h = (just, h)
values_up d just (misfit.NoNode n format) h = absurd h.2
values_up d just (misfit.NoStep n) h = absurd h.2
values_up d just (misfit.NoPart n it) h = absurd h.2

abbrev TreeRest : Data → Format → Type 0
TreeRest d format = (format_of (at key.Format d) ≡ Some format) × HasJust tree_keys d × IsRead (whole_number (at key.Target d))

pub nodes_up : (d : Data) (format : Format) → TreeRest d format → (m : Misfit) → IsNodesMisfit format (at key.Nodes d) m → IsTreeMisfit d m
nodes_up d format rest misfit.NoObject h = absurd h
nodes_up d format rest misfit.OtherFormat h = absurd h
nodes_up d format rest (misfit.Missing k) h = absurd h
nodes_up d format rest (misfit.Unknown name) h = absurd h
nodes_up d format rest misfit.OneNull h = absurd h
nodes_up d format rest misfit.OtherGoal h = absurd h
nodes_up d format rest (misfit.NoNumber k) h = absurd h
nodes_up d format rest (misfit.NoArray k) h = (format, rest.0, rest.1, rest.2, h)
nodes_up d format rest (misfit.NoOffset n) h = absurd h
nodes_up d format rest (misfit.NoNode n told) h = (format, rest.0, rest.1, rest.2, h)
nodes_up d format rest (misfit.NoStep n) h = absurd h
nodes_up d format rest (misfit.NoPart n it) h = absurd h

abbrev ArgumentRest : Data → Type 0
ArgumentRest d = IsOfArgument d × HasJust argument_keys d × IsRead (goal_of (at key.Goal d)) × IsRead (whole_number (at key.Target d))

pub steps_up : (d : Data) → ArgumentRest d → (m : Misfit) → IsStepsMisfit (at key.Steps d) m → IsArgumentMisfit d m
steps_up d rest misfit.NoObject h = absurd h.3
steps_up d rest misfit.OtherFormat h = absurd h.3
steps_up d rest (misfit.Missing k) h = absurd h.3
steps_up d rest (misfit.Unknown name) h = absurd h.3
steps_up d rest misfit.OneNull h = absurd h.3
steps_up d rest misfit.OtherGoal h = absurd h.3
steps_up d rest (misfit.NoNumber k) h = absurd h.3
steps_up d rest (misfit.NoArray k) h = (rest.0, rest.1, rest.2, rest.3, h)
steps_up d rest (misfit.NoOffset n) h = absurd h.3
steps_up d rest (misfit.NoNode n format) h = absurd h.3
steps_up d rest (misfit.NoStep n) h = (rest.0, rest.1, rest.2, rest.3, h)
steps_up d rest (misfit.NoPart n it) h = (rest.0, rest.1, rest.2, rest.3, h)

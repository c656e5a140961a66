use Rattle.tsn_model.proofs.Validity.{valid_from_parts, parts_of_valid}
use Rattle.tsn_laws.proofs.definitions.validity_decides.Goals as goal

pub returns : goal.returns
returns c = λ network offsets. (parts_of_valid network offsets, λ parts. valid_from_parts network offsets parts.0 parts.1 parts.2 parts.3 parts.4)

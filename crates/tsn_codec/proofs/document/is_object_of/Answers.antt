use Rattle.tsn_codec.proofs.JsonLemmas.{is_object_of-members_view}
use Rattle.tsn_codec.proofs.document.is_object_of.Goals as goal

pub returns-in-Some : goal.returns-in-Some
returns-in-Some c = is_object_of-members_view _ _ _ _ c.len.ensures.len c.in-Some.ensures

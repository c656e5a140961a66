use Rattle.tsn_laws.proofs.SmallRooms as shown
use Rattle.tsn_laws.proofs.definitions.small_rooms.Goals as goal

pub returns : goal.returns
returns c = shown.small_rooms

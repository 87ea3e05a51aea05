-- All eight bytes, of which those before the word's own do not matter. Assumes nothing.
use Rattle.std.proofs.Common.{refl}
use Rattle.writer.specs.PuttingLaws.{puts_whole, room-is}
use Rattle.writer.proofs.page.Page.put.Goals as goal

pub returns-then-has_room : goal.returns-then-has_room
returns-then-has_room c =
    let room = room-is _ _ _ c.has_room.ensures c.if-has_room.true in
    puts_whole _ _ _ _ refl room.0 room.1 refl c.width.ensures.0 c.width.ensures.1 c.put_whole.ensures.1

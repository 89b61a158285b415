-- The field came alone, or it is cut.
use Rattle.rtmp_chunks.proofs.Alone.{cleared, least_id}
use Rattle.rtmp_chunks.proofs.fields.read_basic.Goals as goal

pub returns-clause-field : goal.returns-clause-field
returns-clause-field g c =
    let S = g.S.Source in
    cleared S.tells S.left c.clear.new.self.items c.append_basic.new.out.items c.args.cursor.now c.append_basic.new.cursor c.append_basic.result c.clear.ensures.items c.append_basic.ensures.field

pub returns-clause-least : goal.returns-clause-least
returns-clause-least g c =
    let S = g.S.Source in
    least_id S.tells S.left c.append_basic.new.out.items c.args.cursor.now c.append_basic.new.cursor c.append_basic.result
    (cleared S.tells S.left c.clear.new.self.items c.append_basic.new.out.items c.args.cursor.now c.append_basic.new.cursor c.append_basic.result c.clear.ensures.items c.append_basic.ensures.field)

use Rattle.op_dir.proofs.PlaceLaws.{left-beginning, left-first}
use Rattle.volume_rows.specs.Cursors.{cursor_of}
use Rattle.volume_rows.specs.declared.cursors.Cursor.TheVariants.{After}
use Rattle.volume_state.specs.Children.{links_under}
use Rattle.op_dir.proofs.places.links_left.Goals as goal

pub returns-in-After : goal.returns-in-After
returns-in-After c =
    let v = c.args.volume.now.content in
    let begins = c.beginning-units.ensures.begins v.table in
    let listed = rw c.units.ensures at c.children_after.ensures.listed in
    rw c.in-After.is (left-beginning v c.args.dir c.args.expression.now c.beginning-units.result.now (cursor_of (After c.in-After.name)) (links_under v c.children_after.result.now) begins listed)

pub returns-in-Start : goal.returns-in-Start
returns-in-Start c =
    let v = c.args.volume.now.content in
    left-first v c.args.dir c.args.expression.now c.beginning-units.result.now c.args.cursor.now (links_under v c.children_after-in-Start.result.now) c.in-Start.is (c.beginning-units.ensures.begins v.table) c.children_after-in-Start.ensures.listed

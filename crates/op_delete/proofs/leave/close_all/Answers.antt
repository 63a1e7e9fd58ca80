use Rattle.std.proofs.Common.{arith, refl, sym}
use Rattle.op_delete.proofs.LeaveLaws.{AreLater-one, IsClosing-begun, IsClosing-last, IsClosing-one, IsClosing-room, IsFirst-above, fewer-rows, handles_of_client-none, none-above}
use Rattle.op_delete.proofs.leave.close_all.Goals as goal

pub returns-in_default-clause-content : goal.returns-in_default-clause-content
returns-in_default-clause-content c = rw (handles_of_client-none c.args.volume.now.content c.args.client c.in_default.ensures.none) refl

pub close_one-after-requires-clause-room : goal.close_one-after-requires-clause-room
close_one-after-requires-clause-room c =
    IsClosing-room c.args.client c.args.volume.now.content c.args.volume.now.content c.args.volume.now.spare c.args.volume.now.spare c.in-Some.first
    (IsClosing-begun c.args.client c.args.volume.now.content c.args.volume.now.spare c.requires.room c.requires.ends) c.in-Some.ensures.numbers c.in-Some.ensures.differ c.in-Some.ensures.first

pub handles-init : goal.handles-init
handles-init c = record {
  closing = IsClosing-one c.args.client c.args.volume.now.content c.args.volume.now.content c.close_one-after.new.volume.content c.args.volume.now.spare c.args.volume.now.spare c.close_one-after.new.volume.spare
      c.in-Some.first (IsClosing-begun c.args.client c.args.volume.now.content c.args.volume.now.spare c.requires.room c.requires.ends) c.in-Some.ensures.numbers c.in-Some.ensures.differ
      c.in-Some.ensures.first c.in-Some.ensures.lives c.close_one-after.ensures.content c.close_one-after.ensures.handles c.close_one-after.ensures.clients c.close_one-after.ensures.left
      c.close_one-after.ensures.notes c.close_one-after.ensures.count;
  later = AreLater-one c.args.volume.now.content c.close_one-after.new.volume.content c.args.client c.in-Some.first c.close_one-after.result c.in-Some.ensures.numbers c.in-Some.ensures.differ
      c.in-Some.ensures.first c.in-Some.ensures.lives c.close_one-after.ensures.number c.close_one-after.ensures.handles;
  ends = c.close_one-after.ensures.ends;
}

pub close_one-after-requires-in-Some-next_handle_of-clause-room : goal.close_one-after-requires-in-Some-next_handle_of-clause-room
close_one-after-requires-in-Some-next_handle_of-clause-room c =
    IsClosing-room c.args.client c.args.volume.now.content c.handles.volume.content c.args.volume.now.spare c.handles.volume.spare c.in-Some-next_handle_of.id c.handles.invariant.closing
    c.in-Some-next_handle_of.ensures.numbers c.in-Some-next_handle_of.ensures.differ
    (IsFirst-above c.handles.volume.content c.args.client c.handles.after c.in-Some-next_handle_of.id c.in-Some-next_handle_of.ensures.numbers c.in-Some-next_handle_of.ensures.differ
    c.handles.invariant.later (sym c.in-Some-next_handle_of.ensures.found))

pub handles-smaller : goal.handles-smaller
handles-smaller c = rw c.close_one-after-in-Some-next_handle_of.ensures.handles (fewer-rows c.handles.volume.content.handles c.in-Some-next_handle_of.id c.in-Some-next_handle_of.ensures.lives)

pub handles-preserved : goal.handles-preserved
handles-preserved c =
    let first = IsFirst-above c.handles.volume.content c.args.client c.handles.after c.in-Some-next_handle_of.id c.in-Some-next_handle_of.ensures.numbers c.in-Some-next_handle_of.ensures.differ
    c.handles.invariant.later (sym c.in-Some-next_handle_of.ensures.found) in
    record {
      closing = IsClosing-one c.args.client c.args.volume.now.content c.handles.volume.content c.close_one-after-in-Some-next_handle_of.new.volume.content c.args.volume.now.spare c.handles.volume.spare
          c.close_one-after-in-Some-next_handle_of.new.volume.spare c.in-Some-next_handle_of.id c.handles.invariant.closing c.in-Some-next_handle_of.ensures.numbers
          c.in-Some-next_handle_of.ensures.differ first c.in-Some-next_handle_of.ensures.lives c.close_one-after-in-Some-next_handle_of.ensures.content
          c.close_one-after-in-Some-next_handle_of.ensures.handles c.close_one-after-in-Some-next_handle_of.ensures.clients c.close_one-after-in-Some-next_handle_of.ensures.left
          c.close_one-after-in-Some-next_handle_of.ensures.notes c.close_one-after-in-Some-next_handle_of.ensures.count;
      later = AreLater-one c.handles.volume.content c.close_one-after-in-Some-next_handle_of.new.volume.content c.args.client c.in-Some-next_handle_of.id
          c.close_one-after-in-Some-next_handle_of.result c.in-Some-next_handle_of.ensures.numbers c.in-Some-next_handle_of.ensures.differ first c.in-Some-next_handle_of.ensures.lives
          c.close_one-after-in-Some-next_handle_of.ensures.number c.close_one-after-in-Some-next_handle_of.ensures.handles;
      ends = omega (arith, c.close_one-after-in-Some-next_handle_of.ensures.ends, c.handles.invariant.ends);
    }

pub returns-clause-content : goal.returns-clause-content
returns-clause-content c =
    IsClosing-last c.args.client c.args.volume.now.content c.handles.volume.content c.args.volume.now.spare c.handles.volume.spare c.handles.invariant.closing
    (none-above c.handles.volume.content c.args.client c.handles.after c.handles.invariant.later c.in_default-next_handle_of.ensures.none)

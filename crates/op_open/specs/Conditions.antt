-- What an open asks of the volume, and the room that it takes first.
use Rattle.std.specs.Prelude.{◌≡◌, ℕ, ◌==◌, ◌||◌, ◌&&◌, ◌<◌, ◌≤◌, ◌-◌, ◌^◌, true, false, Option, None, is_some, length, IsTrue}
use Rattle.std.specs.Option.{option_map_or}
use Rattle.fsa_types.specs.BoundedList.{Bounded}
use Rattle.fsa_types.specs.Rows.{lives}
use Rattle.fsa_types.specs.declared.reply.Blocker.{Blocker}
use Rattle.fsa_model.specs.Lookups.{handle_of, is_directory}
use Rattle.fsa_model.specs.Sound.{is_link_of_directory, is_stream_of_link}
use Rattle.fsa_model.specs.Volume.{Volume}
use Rattle.op_parts.specs.Room.{HasWaitRoom}
use Rattle.volume_state.specs.Living.{is_link_to}
use Rattle.volume_state.specs.VolumeView.{Spare}

-- the client is one of the volume's, no handle of it has the call's number, and numbers are
-- left for all that one open makes
pub record MayOpen (v : Volume) (client number : ℕ) : Type 0 where
  pub is_client : client < length v.clients
  pub new : handle_of v client number ≡ None
  pub files : v.last_file < 2 ^ 32 - 4
  pub links : v.last_link < 2 ^ 32 - 4
  pub streams : v.last_stream < 2 ^ 32 - 4
  pub handles : v.last_handle < 2 ^ 32 - 4
  pub breaks : v.last_break < 2 ^ 63

-- a handle may be open by this link and on this stream: the link lives or is the root's, the stream
-- is one of the link's file, and there is none only where the link is a directory's
pub record IsOpenBy (v : Volume) (link : ℕ) (stream : Option ℕ) : Type 0 where
  pub living : IsTrue ((link == 0 || lives v.links link) && option_map_or (λ s. is_stream_of_link v.links v.streams link s) stream true)
  pub has_stream : IsTrue (is_some stream || is_link_of_directory v.files v.links link)

-- there is room for a handle, for a break, and for the open to be held
pub record HasOpenRoom (v : Volume) (spare : Spare) (list : Bounded Blocker) : Type 0 where
  pub handles : 1 ≤ spare.handles
  pub wait : HasWaitRoom v spare list

-- the file is there by this link: the link lives or is the root's; that of a directory is a
-- directory's; and of what isn't a directory the link lives and is the file's, which lives
pub record IsThere (v : Volume) (link file : ℕ) : Type 0 where
  pub by_link : IsTrue (link == 0 || lives v.links link)
  pub of_directory : is_directory v.files file ≡ true → IsTrue (is_link_of_directory v.files v.links link)
  pub of_file : is_directory v.files file ≡ false → IsTrue (lives v.links link) × IsTrue (is_link_to v.links link file) × IsTrue (lives v.files file)

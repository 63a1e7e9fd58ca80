-- The content and the spare room of the tables of a volume.
use Rattle.std.specs.Prelude.{map}
use Rattle.fsa_model.specs.Setup.{client_of}
use Rattle.fsa_model.specs.Volume.{Volume}
use Rattle.volume_state.specs.VolumeView.{Beside, Spare}
use Rattle.volume_state.specs.Watches.{watch_of_row}
use Rattle.volume_state.specs.declared.volume.Volume.TheInside.{Inside}

abbrev pub content_of : Inside → Volume
content_of v = record {
  table = v.links.table;
  clients = map client_of v.clients.items;
  files = v.files.rows;
  links = v.links.rows;
  streams = map (λ entry. (entry.0, entry.1.stream)) v.streams.rows;
  handles = v.handles.rows;
  locks = v.handles.locks;
  oplocks = v.oplocks.rows;
  pending = v.pending.items;
  ended = v.ended.items;
  watches = map watch_of_row v.watches.items;
  changes = v.changes.changes;
  limits = v.limits.items;
  clock = v.clock;
  left = v.left.items;
  last_file = v.files.last;
  last_link = v.links.last;
  last_stream = v.streams.last;
  last_handle = v.handles.last;
  last_lock = v.handles.last_lock;
  last_break = v.oplocks.last;
}

abbrev pub beside_of : Inside → Beside
beside_of v = record { base = v.changes.base; waited = v.oplocks.waited }

abbrev pub spare_of : Inside → Spare
spare_of v = record {
  files = v.files.room;
  links = record { own = v.links.rooms; others = 0 };
  streams = v.streams.room;
  handles = v.handles.room;
  owners = v.space.room;
  locks = record { own = v.handles.rooms; others = 0 };
  oplocks = record { own = v.oplocks.rooms; others = 0 };
  watches = v.watches.room;
  limits = v.limits.room;
  pending = v.pending.room;
  blockers = v.pending.blockers;
  changes = v.changes.room;
  ends = v.ended.room;
  units = v.changes.units;
  dirs = v.changes.dirs;
  bytes = map (λ entry. (entry.0, entry.1.room)) v.streams.rows;
}

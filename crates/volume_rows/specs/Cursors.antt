-- Where an enumeration stands.
use Rattle.volume_rows.specs.declared.cursors.Cursor.{Cursor as GivenCursor}
use Rattle.volume_rows.specs.declared.cursors.Cursor.TheVariants as given
use Rattle.fsa_model.specs.Volume.{Cursor, Start, Dot, DotDot, After}

abbrev pub cursor_of : GivenCursor → Cursor
cursor_of given.Start = Start
cursor_of given.Dot = Dot
cursor_of given.DotDot = DotDot
cursor_of (given.After name) = After name

-- What is shown of a file, in listings and in information: its attributes, the length of a stream and the space
-- that the stream takes, after [MS-FSCC] 'File Attributes' and 'File Information Classes'.
use Rattle.std.specs.Prelude.{ℕ, ◌*◌, ◌==◌, length, Option, is_some, if◌then◌else◌, []}
use Rattle.std.specs.Int.RustNames.{bit_or}
use Rattle.std.specs.Option.{option_map_or}
use Rattle.fsa_types.specs.Clusters.{cluster_size, clusters_for}
use Rattle.fsa_types.specs.Masks.{DIRECTORY, FILE_ATTRIBUTE_REPARSE_POINT, NORMAL}
use Rattle.fsa_types.specs.PackedRows.{Numbers}
use Rattle.fsa_types.specs.Rows.{row_of}
use Rattle.fsa_model.specs.Lookups.{access_time, bytes_of, creation_time, stream_of, write_time}
use Rattle.fsa_model.specs.Volume.{File, Volume}

-- the attributes that are kept, with DIRECTORY for a directory and FILE_ATTRIBUTE_REPARSE_POINT where there is a reparse
-- point; NORMAL where none is left
abbrev pub all_attributes : File → ℕ
all_attributes file =
    bit_or (bit_or file.attributes (if file.directory then DIRECTORY else 0)) (if is_some file.point then FILE_ATTRIBUTE_REPARSE_POINT else 0)

abbrev pub shown_attributes : Volume → ℕ → ℕ
shown_attributes v file =
    option_map_or (λ row. if all_attributes row == 0 then NORMAL else all_attributes row) (row_of v.files file) NORMAL

-- the change time of a file, beside the other times in `Lookups`
abbrev pub change_time : Volume → ℕ → ℕ
change_time v file = option_map_or (λ row. row.change) (row_of v.files file) 0

-- the length of a stream, and the bytes of the clusters that it takes; 0 where there is none, as for a directory
abbrev pub length_shown : Volume → Option ℕ → ℕ
length_shown v stream = option_map_or (λ s. length (bytes_of v s)) stream 0

abbrev pub space_shown : Volume → Option ℕ → ℕ
space_shown v stream = cluster_size * clusters_for (length_shown v stream)

-- the default stream of a file
abbrev pub default_stream : Volume → ℕ → Option ℕ
default_stream v file = stream_of v file []

-- the numbers of a file in a listing: its times, the length and the space of its default stream, its attributes
-- and its number
abbrev pub listed_numbers : Volume → ℕ → Numbers
listed_numbers v file = record {
  action = 0;
  creation = creation_time v file;
  access = access_time v file;
  write = write_time v file;
  change = change_time v file;
  length = length_shown v (default_stream v file);
  room = space_shown v (default_stream v file);
  attributes = shown_attributes v file;
  file = file;
}

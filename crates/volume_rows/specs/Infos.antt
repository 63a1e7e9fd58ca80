-- A stream without its bytes.
use Rattle.std.specs.Prelude.{length}
use Rattle.fsa_model.specs.Volume.{Stream}
use Rattle.volume_rows.specs.declared.rows.StreamInfo.{StreamInfo}

abbrev pub info_of : Stream → StreamInfo
info_of stream = record { file = stream.file; name = stream.name; length = length stream.bytes; deleted = stream.deleted }

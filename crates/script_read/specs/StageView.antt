-- The reader's stages, in the words of the definition.
use Rattle.script_read.specs.declared.stage.Stage.{Stage as ReadStage}
use Rattle.script_read.specs.declared.stage.Stage.TheVariants as read
use Rattle.fsa_model.specs.Script.{Stage, Nothing, Begun, Pairs, Table, Clients, Requests}

abbrev pub stage_of : ReadStage → Stage
stage_of read.Nothing = Nothing
stage_of read.Begun = Begun
stage_of read.Pairs = Pairs
stage_of read.Table = Table
stage_of read.Clients = Clients
stage_of read.Requests = Requests

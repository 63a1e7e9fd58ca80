-- What a volume's machine was made with.
use Rattle.fsa_model.specs.Setup.{Setup}
use Rattle.shared_volume.specs.declared.engine.Engine.{Engine}

abbrev pub setup_in_engine : Engine → Setup
setup_in_engine engine = engine.machine.setup

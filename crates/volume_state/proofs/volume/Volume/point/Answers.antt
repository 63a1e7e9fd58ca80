use Rattle.volume_state.proofs.PointLaws.{few-lent}
use Rattle.volume_state.proofs.volume.Volume.point.Goals as goal

pub returns-clause-few : goal.returns-clause-few
returns-clause-few c = few-lent c.self.inside.files.rows c.args.file c.point_of.result c.self.invariant.0.points_fit c.point_of.ensures

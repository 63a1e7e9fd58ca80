use Rattle.std.proofs.Common.{◌≡◌, ◌<◌, true, get_or, length}
use Rattle.std.specs.Prelude.{is_some}
use Rattle.fsa_model.specs.Lookups.{linked_file}
use Rattle.fsa_model.specs.Sound.{is_of_living}
use Rattle.fsa_model.specs.Volume.{Handle}
use Rattle.fsa_model.proofs.RowLaws.{found-all, lent-row}
use Rattle.volume_state.specs.Content.{content_of}
use Rattle.volume_state.specs.Living.{CanBeLinked}
use Rattle.volume_state.proofs.HandleLaws.{linkable}
use Rattle.volume_state.proofs.OpenLaws.{lent-lives}
use Rattle.fsa_model.specs.Sound.{has_its_stream}
use Rattle.volume_state.proofs.volume.Volume.handle.Goals as goal

pub returns-clause-living : goal.returns-clause-living
returns-clause-living c =
    let P : Handle → Type 0 = λ row. is_of_living (content_of c.self.inside).links (content_of c.self.inside).streams row ≡ true in
    rw (← c.self.view_is) (lent-row P c.get.result _ c.get.ensures (found-all P c.self.inside.handles.rows c.args.id c.self.invariant.0.opens.are_of_living))

pub returns-clause-client : goal.returns-clause-client
returns-clause-client c =
    let P : Handle → Type 0 = λ row. row.client < length (content_of c.self.inside).clients in
    rw (← c.self.view_is) (lent-row P c.get.result _ c.get.ensures (found-all P c.self.inside.handles.rows c.args.id c.self.invariant.0.opens.have_clients))

pub returns-clause-lives : goal.returns-clause-lives
returns-clause-lives c = rw (← c.self.view_is) (lent-lives c.self.inside.handles.rows c.args.id c.get.result c.get.ensures)

pub returns-clause-stream : goal.returns-clause-stream
returns-clause-stream c =
    let P : Handle → Type 0 = λ row. has_its_stream c.self.inside.files.rows c.self.inside.links.rows row ≡ true in
    rw (← c.self.view_is) (lent-row P c.get.result _ c.get.ensures (found-all P c.self.inside.handles.rows c.args.id c.self.invariant.0.opens.have_streams))

pub returns-clause-linked : goal.returns-clause-linked
returns-clause-linked c =
    let P : Handle → Type 0 = λ row. is_some row.stream ≡ true → CanBeLinked (content_of c.self.inside) (linked_file (content_of c.self.inside) row.link) in
    rw (← c.self.view_is) (lent-row P c.get.result _ c.get.ensures (found-all P c.self.inside.handles.rows c.args.id
    (λ k d within. linkable (content_of c.self.inside) (get_or c.self.inside.handles.rows k d).1 c.self.invariant.0 (c.self.invariant.0.opens.are_of_living k d within))))

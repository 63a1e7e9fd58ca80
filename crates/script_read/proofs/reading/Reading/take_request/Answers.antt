use Rattle.std.proofs.Common.{◌≡◌, ◌∙◌, sym, true, rules, map}
use Rattle.std.specs.Prelude.{Some, None}
use Rattle.fsa_model.specs.Setup.{client_of}
use Rattle.fsa_model.specs.Script.{place_of, takes_requests}
use Rattle.script_read.specs.StageView.{stage_of}
use Rattle.script_read.specs.ReadingView.{reading_of}
use Rattle.script_read.proofs.TakeLemmas.{place_of-kept, take_request-unknown, take_request-known}
use Rattle.script_read.proofs.reading.Reading.take_request.Goals as goal

pub returns-in-Some : goal.returns-in-Some
returns-in-Some c =
    let old = c.args.self.now in
    let takes : takes_requests (stage_of old.stage) ≡ true = search rules in
    let there : place_of (map client_of old.clients.items) c.args.name.now ≡ Some c.in-Some.place =
    place_of-kept old c.args.name.now c.requires.kept ∙ sym c.in-Some.ensures.place in
    rw (take_request-known (reading_of old) c.args.name.now c.in-Some.place c.args.number c.args.what takes there) c.take_call.ensures

pub returns-in-None : goal.returns-in-None
returns-in-None c =
    let old = c.args.self.now in
    let takes : takes_requests (stage_of old.stage) ≡ true = search rules in
    let absent : place_of (map client_of old.clients.items) c.args.name.now ≡ None =
    place_of-kept old c.args.name.now c.requires.kept ∙ sym c.in-None.ensures.place in
    record {
      gives = take_request-unknown (reading_of old) c.args.name.now c.args.number c.args.what takes absent;
      kept = tt;
      room = tt;
    }

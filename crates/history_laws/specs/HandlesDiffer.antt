-- That the handles of a volume differ: no two have the same client and number, as `AreOpens` says of the code's volumes. After [MS-SMB2]
-- 'Per Open', where Open.FileId is unique within a session.
use Rattle.std.specs.Prelude.{◌≡◌, false, AllPairs}
use Rattle.fsa_model.specs.Lookups.{is_opened_by}
use Rattle.fsa_model.specs.Volume.{Volume}

abbrev pub HandlesDiffer : Volume → Type 0
HandlesDiffer v = AllPairs (λ a b. is_opened_by b.1.client b.1.number a.1 ≡ false) v.handles

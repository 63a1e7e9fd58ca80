use Rattle.std.proofs.Common.{◌∷◌}
use Rattle.std.proofs.lemmas.List.{map-append}
use Rattle.std.specs.Cmp.Lexicographic.{on_texts, texts_ties}
use Rattle.fsa_types.specs.CaseTable.{up, upcased}
use Rattle.names.proofs.OrderLemmas.{slice_cmp-units, slice_cmp-prefix}
use Rattle.names.proofs.order.order_of_names.Goals as goal

pub returns-clause-total : goal.returns-clause-total
returns-clause-total c = λ table. on_texts (upcased table)

pub returns-clause-same : goal.returns-clause-same
returns-clause-same c = λ table left right. texts_ties (upcased table left) (upcased table right)

pub returns-clause-units : goal.returns-clause-units
returns-clause-units c = λ table front start low high left right same below.
    rw (map-append (up table) front (low ∷ left), map-append (up table) start (high ∷ right))
    (slice_cmp-units (upcased table front) (upcased table start) (up table low) (up table high) (upcased table left) (upcased table right) same below)

pub returns-clause-prefix : goal.returns-clause-prefix
returns-clause-prefix c = λ table name start unit more same.
    rw (map-append (up table) start (unit ∷ more))
    (slice_cmp-prefix (upcased table name) (upcased table start) (up table unit) (upcased table more) same)

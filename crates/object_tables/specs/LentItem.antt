-- What a list is once the loan of one of its items ends.
use Rattle.std.specs.Prelude.{ℕ, slice_set}
use Rattle.std.specs.Borrow.{Lends, Fml, RattleType, MutBor}
use Rattle.object_tables.specs.Series.{Items}
use Rattle.object_tables.specs.contracts.shift_rows.ShiftRows.{the_row}

-- the reference that is lent is to the item at this place: once the loan ends, that item is what was left there
abbrev pub LendsItem : (T : RattleType) → MutBor (Items T.Denot) → ℕ → MutBor T.Denot → Fml
LendsItem T list place lent = Lends (the_row T) T list lent (λ item. record list.now { items = slice_set list.now.items place item })

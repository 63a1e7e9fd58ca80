-- Two lists whose items belong together, by place, or by place from the end of the first.
use Rattle.std.specs.Prelude.{◌≡◌, ℕ, ◌+◌, List, length, slice_get, Some}

-- what the second list has, from its start, belongs to the items of the first, from its end
abbrev pub Faces : {A B : Type 0} → (A → B → Type 0) → List A → List B → Type 0
Faces {A} {B} P xs ys = (i j : ℕ) (x : A) (y : B) → i + j + 1 ≡ length xs → slice_get xs i ≡ Some x → slice_get ys j ≡ Some y → P x y

-- the items at one place belong together
abbrev pub Pointwise : {A B : Type 0} → (A → B → Type 0) → List A → List B → Type 0
Pointwise {A} {B} P xs ys = (i : ℕ) (x : A) (y : B) → slice_get xs i ≡ Some x → slice_get ys i ≡ Some y → P x y

abbrev pub Each : {A : Type 0} → (A → Type 0) → List A → Type 0
Each {A} P xs = (i : ℕ) (x : A) → slice_get xs i ≡ Some x → P x

-- the first list has the first items of the second
abbrev pub Leads : {A : Type 0} → List A → List A → Type 0
Leads {A} front whole = (i : ℕ) (x : A) → slice_get front i ≡ Some x → slice_get whole i ≡ Some x

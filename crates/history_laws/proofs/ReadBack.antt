-- How the lines of a text are read back: their words, and the names of statuses.
use Rattle.std.proofs.Common.{◌≡◌, ℕ, zero, suc, ◌<◌, ◌≤◌, Bool, true, false, List, [], ◌∷◌, ◌++◌, refl, ap, sym, subst, ◌∙◌, inl, inr, ◌⊎◌, arith}
use Rattle.std.specs.Prelude.{◌==◌, ◌||◌, nat_lt, nat_eq, codes, decimal, ◌/◌, ◌%◌, map, if◌then◌else◌}
use Rattle.std.specs.List.{list_any, flat_map}
use Rattle.std.specs.Cmp.Lexicographic.{pointwise}
use Rattle.std.specs.Fmt.{digit_glyph, digits, digits_onto}
use Rattle.std.specs.Int.Digits.{digits_of}
use Rattle.std.proofs.lemmas.Bool.{cases_Bool, eqb-true}
use Rattle.std.proofs.lemmas.List.Folds.{list_any-append}
use Rattle.fsa_types.specs.PackedRows.{Numbers}
use Rattle.fsa_types.specs.Packing.{Packed}
use Rattle.fsa_types.specs.Status.{status_name}
use Rattle.fsa_types.specs.declared.reply.Action.{Action}
use Rattle.fsa_types.specs.declared.reply.Action.TheVariants.{Superseded, Opened as WasOpened, Created, Overwritten}
use Rattle.fsa_types.specs.declared.reply.Body.{Body}
use Rattle.fsa_types.specs.declared.reply.Body.TheVariants.{Nothing, Opened, Got, Count, Packed as PackedBody, Broken, Left, Stopped, Quota}
use Rattle.fsa_types.specs.declared.reply.PackKind.{PackKind}
use Rattle.fsa_types.specs.declared.reply.PackKind.TheVariants.{Names, Dir, Full, IdFull, Streams, Changes}
use Rattle.fsa_types.specs.declared.request.Level.{Level}
use Rattle.fsa_types.specs.declared.request.Level.TheVariants.{Nil, R, RH, RW, RWH}
use Rattle.fsa_types.specs.declared.status.Status.{Status}
use Rattle.fsa_types.specs.declared.status.Status.TheVariants.{Success, Pending, Reparse, OplockBreakInProgress, NotifyCleanup, NotifyEnumDir, OplockSwitchedToNewHandle, OplockHandleClosed, BufferOverflow, NoMoreFiles, StoppedOnSymlink, InvalidHandle, InvalidParameter, NoSuchFile, InvalidDeviceRequest, EndOfFile, AccessDenied, BufferTooSmall, ObjectNameInvalid, ObjectNameNotFound, ObjectNameCollision, ObjectPathNotFound, SharingViolation, QuotaExceeded, FileLockConflict, LockNotGranted, DeletePending, RangeNotLocked, DiskFull, FileIsADirectory, OplockNotGranted, InvalidOplockProtocol, DirectoryNotEmpty, NotADirectory, Cancelled, CannotDelete, InvalidLockRange, TooManyLinks, NotAReparsePoint, IoReparseTagInvalid, IoReparseTagMismatch, IoReparseDataInvalid, InfoLengthMismatch, Stalled, NoMemory}
use Rattle.fsa_model.specs.FieldText.{mask_text, text_text, unit_text, upper_glyph}
use Rattle.fsa_model.specs.Numbers.{glyph, spelled}
use Rattle.fsa_model.specs.PackedText.{attributes_text, change_word, entries_in, entry_text, length_text, packed_text, shown_text, units_in}
use Rattle.fsa_model.specs.Text.{action_text, body_text, bytes_text, hex_digits, level_word, wanted_text}
use Rattle.fsa_model.specs.Words.{is_plain}
use Rattle.fsa_model.specs.Starving.{is_no_memory}

-- ---- words

-- a byte that ends a line, and one that ends a word
abbrev pub ends_line : ℕ → Bool
ends_line byte = byte == 10

abbrev pub ends_word : ℕ → Bool
ends_word byte = byte == 32 || byte == 10

-- none of these bytes does
abbrev pub Free : (ℕ → Bool) → List ℕ → Type 0
Free stops bytes = list_any stops bytes ≡ false

pub or_left : (a b : Bool) → (a || b) ≡ false → a ≡ false
or_left true b none = cc
or_left false b none = refl

pub or_right : (a b : Bool) → (a || b) ≡ false → b ≡ false
or_right true b none = cc
or_right false b none = none

pub or_false : (a b : Bool) → a ≡ false → b ≡ false → (a || b) ≡ false
or_false true b none other = cc
or_false false b none other = other

pub Free-append : (stops : ℕ → Bool) (front back : List ℕ) → Free stops front → Free stops back → Free stops (front ++ back)
Free-append stops front back first second = list_any-append stops front back ∙ or_false (list_any stops front) (list_any stops back) first second

-- two texts that are the same have the same first word, and what follows it is the same
pub same_word : (stops : ℕ → Bool) (front other : List ℕ) (x y : ℕ) (back rest : List ℕ) → Free stops front → Free stops other → stops x ≡ true → stops y ≡ true
    → front ++ x ∷ back ≡ other ++ y ∷ rest → (front ≡ other) × (x ∷ back ≡ y ∷ rest)
same_word stops [] [] x y back rest free free_other ends ends_other same = (refl, same)
same_word stops [] (d ∷ other) x y back rest free free_other ends ends_other same =
    (let here : x ≡ d = cc in let is : stops d ≡ true = ap stops (sym here) ∙ ends in let isnt : stops d ≡ false = or_left (stops d) (list_any stops other) free_other in cc)
same_word stops (c ∷ front) [] x y back rest free free_other ends ends_other same =
    (let here : c ≡ y = cc in let is : stops c ≡ true = ap stops here ∙ ends_other in let isnt : stops c ≡ false = or_left (stops c) (list_any stops front) free in cc)
same_word stops (c ∷ front) (d ∷ other) x y back rest free free_other ends ends_other same =
    let here : c ≡ d = cc in
    let more : front ++ x ∷ back ≡ other ++ y ∷ rest = cc in
    let after = same_word stops front other x y back rest (or_right (stops c) (list_any stops front) free) (or_right (stops d) (list_any stops other) free_other) ends ends_other more in
    (ap (λ (first : ℕ). first ∷ front) here ∙ ap (λ (word : List ℕ). d ∷ word) after.0, after.1)

-- ---- statuses

pub Free-status : (status : Status) → Free ends_word (status_name status)
Free-status Success = refl
Free-status Pending = refl
Free-status Reparse = refl
Free-status OplockBreakInProgress = refl
Free-status NotifyCleanup = refl
Free-status NotifyEnumDir = refl
Free-status OplockSwitchedToNewHandle = refl
Free-status OplockHandleClosed = refl
Free-status BufferOverflow = refl
Free-status NoMoreFiles = refl
Free-status StoppedOnSymlink = refl
Free-status InvalidHandle = refl
Free-status InvalidParameter = refl
Free-status NoSuchFile = refl
Free-status InvalidDeviceRequest = refl
Free-status EndOfFile = refl
Free-status AccessDenied = refl
Free-status BufferTooSmall = refl
Free-status ObjectNameInvalid = refl
Free-status ObjectNameNotFound = refl
Free-status ObjectNameCollision = refl
Free-status ObjectPathNotFound = refl
Free-status SharingViolation = refl
Free-status QuotaExceeded = refl
Free-status FileLockConflict = refl
Free-status LockNotGranted = refl
Free-status DeletePending = refl
Free-status RangeNotLocked = refl
Free-status DiskFull = refl
Free-status FileIsADirectory = refl
Free-status OplockNotGranted = refl
Free-status InvalidOplockProtocol = refl
Free-status DirectoryNotEmpty = refl
Free-status NotADirectory = refl
Free-status Cancelled = refl
Free-status CannotDelete = refl
Free-status InvalidLockRange = refl
Free-status TooManyLinks = refl
Free-status NotAReparsePoint = refl
Free-status IoReparseTagInvalid = refl
Free-status IoReparseTagMismatch = refl
Free-status IoReparseDataInvalid = refl
Free-status InfoLengthMismatch = refl
Free-status Stalled = refl
Free-status NoMemory = refl

-- the name tells whether the call found no memory
pub status_name-tells : (status : Status) → pointwise nat_eq (status_name status) (codes "NO_MEMORY") ≡ is_no_memory status
status_name-tells Success = refl
status_name-tells Pending = refl
status_name-tells Reparse = refl
status_name-tells OplockBreakInProgress = refl
status_name-tells NotifyCleanup = refl
status_name-tells NotifyEnumDir = refl
status_name-tells OplockSwitchedToNewHandle = refl
status_name-tells OplockHandleClosed = refl
status_name-tells BufferOverflow = refl
status_name-tells NoMoreFiles = refl
status_name-tells StoppedOnSymlink = refl
status_name-tells InvalidHandle = refl
status_name-tells InvalidParameter = refl
status_name-tells NoSuchFile = refl
status_name-tells InvalidDeviceRequest = refl
status_name-tells EndOfFile = refl
status_name-tells AccessDenied = refl
status_name-tells BufferTooSmall = refl
status_name-tells ObjectNameInvalid = refl
status_name-tells ObjectNameNotFound = refl
status_name-tells ObjectNameCollision = refl
status_name-tells ObjectPathNotFound = refl
status_name-tells SharingViolation = refl
status_name-tells QuotaExceeded = refl
status_name-tells FileLockConflict = refl
status_name-tells LockNotGranted = refl
status_name-tells DeletePending = refl
status_name-tells RangeNotLocked = refl
status_name-tells DiskFull = refl
status_name-tells FileIsADirectory = refl
status_name-tells OplockNotGranted = refl
status_name-tells InvalidOplockProtocol = refl
status_name-tells DirectoryNotEmpty = refl
status_name-tells NotADirectory = refl
status_name-tells Cancelled = refl
status_name-tells CannotDelete = refl
status_name-tells InvalidLockRange = refl
status_name-tells TooManyLinks = refl
status_name-tells NotAReparsePoint = refl
status_name-tells IoReparseTagInvalid = refl
status_name-tells IoReparseTagMismatch = refl
status_name-tells IoReparseDataInvalid = refl
status_name-tells InfoLengthMismatch = refl
status_name-tells Stalled = refl
status_name-tells NoMemory = refl

-- ---- numbers

-- a byte from that of the digit 0 on is neither a line feed nor a space
high-ends_word : (byte : ℕ) → 48 ≤ byte → ends_word byte ≡ false
high-ends_word byte high = or_false (byte == 32) (byte == 10) (differs 32 (omega arith)) (differs 10 (omega arith))
  where
    differs : (other : ℕ) → other < byte → (byte == other) ≡ false
    differs other less = elim (cases_Bool (byte == other)) [ inr isnt ↦ isnt | inl is ↦ absurd (let same : byte ≡ other = eqb-true byte other is in omega arith) ]

digit_glyph-high : (upper : Bool) (d : ℕ) → 48 ≤ digit_glyph upper d
digit_glyph-high upper d = elim (cases_Bool (nat_lt d 10)) [
  | inl few ↦ rw few (omega arith)
  | inr many ↦ elim (cases_Bool upper) [ inl is ↦ rw (many, is) (omega arith) | inr isnt ↦ rw (many, isnt) (omega arith) ]
]

Free-digits_onto : (most base : ℕ) (upper : Bool) (n : ℕ) (after : List ℕ) → Free ends_word after → Free ends_word (digits_onto most base upper n after)
Free-digits_onto zero base upper n after free = free
Free-digits_onto (suc most) base upper n after free =
    let here : Free ends_word (digit_glyph upper (n % base) ∷ after) = or_false (ends_word (digit_glyph upper (n % base))) (list_any ends_word after) (high-ends_word _ (digit_glyph-high upper (n % base))) free in
    elim (cases_Bool (n / base == 0)) [
      | inl last ↦ rw last here
      | inr more ↦ rw more (Free-digits_onto most base upper (n / base) (digit_glyph upper (n % base) ∷ after) here)
    ]

pub Free-decimal : (n : ℕ) → Free ends_word (decimal n)
unfolding digits
Free-decimal n = Free-digits_onto 64 10 false n [] refl

-- a number in lower-case digits
glyph-high : (d : ℕ) → 48 ≤ glyph d
glyph-high d = elim (cases_Bool (nat_lt d 10)) [ inl few ↦ rw few (omega arith) | inr many ↦ rw many (omega arith) ]

Free-glyphs : (ds : List ℕ) → Free ends_word (map glyph ds)
Free-glyphs [] = refl
Free-glyphs (d ∷ ds) = or_false (ends_word (glyph d)) (list_any ends_word (map glyph ds)) (high-ends_word (glyph d) (glyph-high d)) (Free-glyphs ds)

Free-spelled : (base n : ℕ) → Free ends_word (spelled base n)
Free-spelled base n = elim (cases_Bool (n == 0)) [ inl none ↦ rw none refl | inr some ↦ rw some (Free-glyphs (digits_of base n)) ]

-- ---- bodies

-- what has neither space nor line feed has no line feed
pub Free-line : (bytes : List ℕ) → Free ends_word bytes → Free ends_line bytes
Free-line [] free = refl
Free-line (c ∷ bytes) free =
    or_false (ends_line c) (list_any ends_line bytes) (or_right (c == 32) (c == 10) (or_left (ends_word c) (list_any ends_word bytes) free)) (Free-line bytes (or_right (ends_word c) (list_any ends_word bytes) free))

Free-high : (byte : ℕ) (bytes : List ℕ) → 48 ≤ byte → Free ends_word bytes → Free ends_word (byte ∷ bytes)
Free-high byte bytes high free = or_false (ends_word byte) (list_any ends_word bytes) (high-ends_word byte high) free

Free-hex : (bytes : List ℕ) → Free ends_word (hex_digits bytes)
Free-hex [] = refl
Free-hex (byte ∷ bytes) =
    Free-high (glyph (byte / 16)) (glyph (byte % 16) ∷ hex_digits bytes) (glyph-high (byte / 16)) (Free-high (glyph (byte % 16)) (hex_digits bytes) (glyph-high (byte % 16)) (Free-hex bytes))

upper_glyph-high : (d : ℕ) → 48 ≤ upper_glyph d
upper_glyph-high d = elim (cases_Bool (nat_lt d 10)) [ inl few ↦ rw few (omega arith) | inr many ↦ rw many (omega arith) ]

Free-glyph : (d : ℕ) (bytes : List ℕ) → Free ends_line bytes → Free ends_line (upper_glyph d ∷ bytes)
Free-glyph d bytes free = or_false (ends_line (upper_glyph d)) (list_any ends_line bytes) (or_right (upper_glyph d == 32) (upper_glyph d == 10) (high-ends_word (upper_glyph d) (upper_glyph-high d))) free

plain-ends_line : (unit : ℕ) → is_plain unit ≡ true → ends_line unit ≡ false
plain-ends_line unit plain = elim (cases_Bool (unit == 10)) [
  | inr isnt ↦ isnt
  | inl is ↦ (let same : unit ≡ 10 = eqb-true unit 10 is in let plainly : is_plain 10 ≡ true = subst (λ (u : ℕ). is_plain u ≡ true) same plain in cc)
]

Free-unit : (unit : ℕ) → Free ends_line (unit_text unit)
Free-unit unit = elim (cases_Bool (is_plain unit)) [
  | inl plain ↦ rw plain (or_false (ends_line unit) false (plain-ends_line unit plain) refl)
  | inr other ↦ rw other (Free-glyph (unit / 16 / 16 / 16) (upper_glyph (unit / 16 / 16 % 16) ∷ upper_glyph (unit / 16 % 16) ∷ upper_glyph (unit % 16) ∷ [])
      (Free-glyph (unit / 16 / 16 % 16) (upper_glyph (unit / 16 % 16) ∷ upper_glyph (unit % 16) ∷ []) (Free-glyph (unit / 16 % 16) (upper_glyph (unit % 16) ∷ []) (Free-glyph (unit % 16) [] refl))))
]

Free-units : (units : List ℕ) → Free ends_line (flat_map unit_text units)
Free-units [] = refl
Free-units (unit ∷ units) = Free-append ends_line (unit_text unit) (flat_map unit_text units) (Free-unit unit) (Free-units units)

Free-level : (level : Level) → Free ends_line (level_word level)
Free-level Nil = refl
Free-level R = refl
Free-level RH = refl
Free-level RW = refl
Free-level RWH = refl

Free-wanted : (ack : Bool) → Free ends_line (wanted_text ack)
Free-wanted true = refl
Free-wanted false = refl

Free-action : (action : Action) → Free ends_line (action_text action)
Free-action Superseded = refl
Free-action WasOpened = refl
Free-action Created = refl
Free-action Overwritten = refl

Free-if : (stops : ℕ → Bool) (test : Bool) (first second : List ℕ) → Free stops first → Free stops second → Free stops (if test then first else second)
Free-if stops true first second free other = free
Free-if stops false first second free other = other

Free-change : (action : ℕ) → Free ends_line (change_word action)
Free-change action =
    Free-if ends_line (action == 1) (codes "ADDED") _ refl
    (Free-if ends_line (action == 2) (codes "REMOVED") _ refl
    (Free-if ends_line (action == 3) (codes "MODIFIED") _ refl
    (Free-if ends_line (action == 4) (codes "RENAMED_OLD_NAME") _ refl
    (Free-if ends_line (action == 5) (codes "RENAMED_NEW_NAME") _ refl
    (Free-if ends_line (action == 6) (codes "ADDED_STREAM") _ refl
    (Free-if ends_line (action == 7) (codes "REMOVED_STREAM") _ refl
    (Free-if ends_line (action == 8) (codes "MODIFIED_STREAM") (decimal action) refl (Free-line (decimal action) (Free-decimal action)))))))))

Free-listed : (units : List ℕ) (attributes size : ℕ) → Free ends_line (text_text units ++ attributes_text attributes ++ length_text size)
Free-listed units attributes size =
    Free-append ends_line (text_text units ++ attributes_text attributes) (length_text size)
    (Free-append ends_line (text_text units) (attributes_text attributes) (Free-units units) (Free-line (spelled 16 attributes) (Free-spelled 16 attributes))) (Free-line (decimal size) (Free-decimal size))

Free-shown : (kind : PackKind) (n : Numbers) (units : List ℕ) → Free ends_line (shown_text kind n units)
Free-shown Changes n units = Free-append ends_line (change_word n.action) (61 ∷ flat_map unit_text units) (Free-change n.action) (Free-units units)
Free-shown Names n units = Free-units units
Free-shown Dir n units = Free-listed units n.attributes n.length
Free-shown Full n units = Free-listed units n.attributes n.length
Free-shown IdFull n units = Free-listed units n.attributes n.length
Free-shown Streams n units = Free-append ends_line (text_text units) (length_text n.length) (Free-units units) (Free-line (decimal n.length) (Free-decimal n.length))

Free-entries : (kind : PackKind) (entries : List Packed) → Free ends_line (flat_map (entry_text kind) entries)
Free-entries kind [] = refl
Free-entries kind (entry ∷ entries) = Free-append ends_line (entry_text kind entry) (flat_map (entry_text kind) entries) (Free-shown kind entry.numbers (units_in entry.name)) (Free-entries kind entries)

-- a body has no line feed
pub Free-body : (body : Body) → Free ends_line (body_text body)
Free-body Nothing = refl
Free-body (Opened action) = Free-action action
Free-body (Got bytes) = Free-line (hex_digits bytes) (Free-hex bytes)
Free-body (Count count) = Free-line (decimal count) (Free-decimal count)
Free-body (Broken level ack) = Free-append ends_line (codes " broken ") (level_word level ++ wanted_text ack) refl (Free-append ends_line (level_word level) (wanted_text ack) (Free-level level) (Free-wanted ack))
Free-body (Left level) = Free-level level
Free-body (Stopped tag bytes rest) =
    Free-append ends_line (mask_text tag ++ 32 ∷ bytes_text bytes) (text_text rest)
    (Free-append ends_line (mask_text tag) (32 ∷ bytes_text bytes) (Free-line (spelled 16 tag) (Free-spelled 16 tag)) (Free-line (hex_digits bytes) (Free-hex bytes))) (Free-units rest)
Free-body (Quota charge limit) = Free-append ends_line (decimal charge) (32 ∷ decimal limit) (Free-line (decimal charge) (Free-decimal charge)) (Free-line (decimal limit) (Free-decimal limit))
Free-body (PackedBody kind bytes) = Free-append ends_line (32 ∷ bytes_text bytes) (packed_text kind bytes) (Free-line (hex_digits bytes) (Free-hex bytes)) (Free-entries kind (entries_in kind bytes))

-- what follows a status ends its word
pub record EndsWord (bytes : List ℕ) : Type 0 where
  pub first : ℕ
  pub more : List ℕ
  pub is : bytes ≡ first ∷ more
  pub ends : ends_word first ≡ true

-- a body is empty or begins with a space
pub body-begins : (body : Body) → (body_text body ≡ []) ⊎ ((more : List ℕ) × (body_text body ≡ 32 ∷ more))
body-begins Nothing = inl refl
body-begins (Opened Superseded) = inr (_, refl)
body-begins (Opened WasOpened) = inr (_, refl)
body-begins (Opened Created) = inr (_, refl)
body-begins (Opened Overwritten) = inr (_, refl)
body-begins (Got bytes) = inr (_, refl)
body-begins (Count count) = inr (_, refl)
body-begins (Broken level ack) = inr (_, refl)
body-begins (Left level) = inr (_, refl)
body-begins (Stopped tag bytes units) = inr (_, refl)
body-begins (Quota charge limit) = inr (_, refl)
body-begins (PackedBody kind bytes) = inr (_, refl)

-- so it ends the word before it, with the line feed behind it
pub body-ends_word : (body : Body) (rest : List ℕ) → EndsWord (body_text body ++ 10 ∷ rest)
body-ends_word body rest = elim (body-begins body) [
  | inl none ↦ record { first = 10; more = rest; is = ap (λ (text : List ℕ). text ++ 10 ∷ rest) none; ends = refl }
  | inr some ↦ record { first = 32; more = some.0 ++ 10 ∷ rest; is = ap (λ (text : List ℕ). text ++ 10 ∷ rest) some.1; ends = refl }
]

-- What is read as the fields of a verb is written so: owners, access lists, and each verb's fields, backwards.
use Rattle.std.proofs.Common.{◌≡◌, ◌∙◌, sym, ap, subst, ℕ, zero, suc, ◌+◌, ◌≤◌, Bool, true, false, List, [], ◌∷◌, ◌++◌, Option, Some, None, Result, Ok, Err, length, drop, inl, inr, refl, arith, append-nil, le-leb, eqb-true, eq-eqb}
use Rattle.std.specs.Prelude.{◌==◌, ◌||◌, ◌⊎◌, nat_le, nat_eq, if◌then◌else◌, codes}
use Rattle.std.specs.Option.{option_map_or}
use Rattle.std.specs.List.{before_first, flat_map, list_all, position_or_len, starts_with}
use Rattle.std.proofs.lemmas.List.{take-append-drop}
use Rattle.std.proofs.lemmas.Bool.{cases_Bool}
use Rattle.std.proofs.lemmas.Bool.Decides.{Decides-eqb}
use Rattle.std.proofs.lemmas.Slice.Eq.{slice_eq-Decides, starts_is}
use Rattle.fsa_types.specs.BoundedList.{full}
use Rattle.fsa_types.specs.declared.request.Ace.{Ace}
use Rattle.fsa_types.specs.declared.request.DaclChange.{DaclChange}
use Rattle.fsa_types.specs.declared.request.DaclChange.TheVariants.{Keep, Remove, Put}
use Rattle.fsa_types.specs.declared.request.Disposition.{Disposition}
use Rattle.fsa_types.specs.declared.request.Disposition.TheVariants.{Supersede, OpenExisting, CreateNew, OpenIf, Overwrite, OverwriteIf}
use Rattle.fsa_types.specs.Request.{level_fits}
use Rattle.fsa_types.specs.declared.request.DirKind.{DirKind}
use Rattle.fsa_types.specs.declared.request.DirKind.TheVariants.{Names, Dir, Full, IdFull}
use Rattle.fsa_types.specs.declared.request.InfoKind.{InfoKind}
use Rattle.fsa_types.specs.declared.request.InfoKind.TheVariants.{Basic, Standard, Internal, Tag, Streams}
use Rattle.fsa_types.specs.declared.request.Level.{Level}
use Rattle.fsa_types.specs.declared.request.Level.TheVariants.{Nil, R, RH, RW, RWH}
use Rattle.fsa_types.specs.declared.request.Request.TheVariants.{Oplock, Ack}
use Rattle.fsa_types.specs.declared.request.Request.TheVariants.{Create, Close, Read, Write, Flush, SetEnd, Lock, Unlock, QueryDir, Notify, QueryInfo, SetBasic, SetDisposition, Rename, Link, SetSecurity, SetReparse, GetReparse, DeleteReparse, SetQuota, QueryQuota, Cancel}
use Rattle.fsa_types.specs.declared.request.What.{What}
use Rattle.fsa_types.specs.declared.request.What.TheVariants.{Ask, Tick, WaitFor}
use Rattle.fsa_model.specs.Fault.{Kind, BadSyntax, ◌>>=◌, only_if}
use Rattle.fsa_model.specs.Numbers.{written_number, spelled}
use Rattle.fsa_model.specs.Words.{most_id, most_place, same, field_at, number_at, mask_at, mask_of, text_at, choice_of, choice_at, string_at}
use Rattle.fsa_model.specs.FieldText.{number_text, mask_text, choice_text, string_text, level_text}
use Rattle.fsa_model.specs.OpenLines.{most_key, disposition_of, disposition_at, disposition_text, create_fields, close_fields}
use Rattle.fsa_model.specs.ByteLines.{read_fields, written_place, start_at, start_text, write_fields, flush_fields, set_end_fields}
use Rattle.fsa_model.specs.LockLines.{lock_fields, unlock_fields}
use Rattle.fsa_model.specs.OplockLines.{level_of_word, level_at, oplock_fields, ack_fields}
use Rattle.fsa_model.specs.InformationLines.{info_kind_of, info_kind_at, info_kind_text, query_info_fields, most_time, set_basic_fields, sid_of, owner_at, owner_text, ace_with, ace_of, ace_text, before_comma, after_entry, ace_onto, aces_of, most_aces, dacl_of, dacl_at, dacl_text, is_ace, is_dacl, set_security_fields}
use Rattle.fsa_model.specs.ListingLines.{dir_kind_of, dir_kind_at, dir_kind_text, query_dir_fields, notify_fields}
use Rattle.fsa_model.specs.ControlLines.{set_reparse_fields, get_reparse_fields, delete_reparse_fields, most_limit, set_quota_fields, query_quota_fields}
use Rattle.fsa_model.specs.NameLines.{rename_fields, link_fields, set_disposition_fields}
use Rattle.fsa_model.specs.ClockLines.{tick_fields}
use Rattle.fsa_model.specs.WaitLines.{cancel_fields, wait_fields}
use Rattle.fsa_model.specs.Requests.{what_of}
use Rattle.fsa_model.specs.Verbs.{verb}
use Rattle.fsa_model.specs.Spelling.{can_be_spelled}
use Rattle.fsa_model.specs.Spelled.{SpellsFields}
use Rattle.fsa_model.proofs.SpeltLaws.{bind_ok, only_if_ok, if_ok, read_as_ok, ended_ok, none_left, field_back, number_back, number_of-most, number_at-back, mask_of-back, mask_at-back, text_at-back, string_at-back}

-- bytes that are told to be a text are it
pub same-is : (bytes text : List ℕ) → same bytes text ≡ true → bytes ≡ text
same-is bytes text is = (slice_eq-Decides Decides-eqb bytes text (same bytes text) refl).0 is

pub starts-is : (bytes front : List ℕ) → starts_with nat_eq bytes front ≡ true → bytes ≡ front ++ drop (length front) bytes
starts-is bytes front is = (starts_is Decides-eqb bytes front (starts_with nat_eq bytes front) refl).0 is

-- one of two readings
pub if_or : {A : Type 0} (test : Bool) (one other : Result A Kind) (value : A) → (if test then one else other) ≡ Ok value → ((test ≡ true) × (one ≡ Ok value)) ⊎ (other ≡ Ok value)
if_or true one other value is = inl (refl, is)
if_or false one other value is = inr is

-- ---- owners

sid_back : (word : List ℕ) (sid : ℕ) → sid_of word ≡ Ok sid → (word ≡ spelled 10 sid) × (sid ≤ 4294967295)
sid_back word sid is =
    let read : written_number 10 most_id word ≡ Some sid = read_as_ok (written_number 10 most_id word) sid is in
    (number_back 10 most_id sid word (omega arith) (omega arith) read, number_of-most 10 most_id sid word read)

abbrev ReadsOwner : Option ℕ → List ℕ → Type 0
ReadsOwner owner text = (text ≡ owner_text owner) × (option_map_or (λ sid. nat_le sid most_id) owner true ≡ true)

owner_word : (word : List ℕ) (owner : Option ℕ) → (if same word (codes "keep") then Ok None else sid_of word >>= (λ sid. Ok (Some sid))) ≡ Ok owner → ReadsOwner owner (32 ∷ word)
owner_word word owner is =
    elim (if_or (same word (codes "keep")) (Ok None) (sid_of word >>= (λ sid. Ok (Some sid))) owner is) [
      | inl kept ↦
          let none : None ≡ owner = (let e : Ok None ≡ Ok owner = kept.1 in cc) in
          subst (λ (o : Option ℕ). ReadsOwner o (32 ∷ word)) none (ap (λ (w : List ℕ). 32 ∷ w) (same-is word (codes "keep") kept.0), refl)
      | inr read ↦
          let sid = bind_ok (sid_of word) (λ s. Ok (Some s)) owner read in
          let some : Some sid.0 ≡ owner = (let e : Ok (Some sid.0) ≡ Ok owner = sid.2 in cc) in
          let back = sid_back word sid.0 sid.1 in
          subst (λ (o : Option ℕ). ReadsOwner o (32 ∷ word)) some (ap (λ (w : List ℕ). 32 ∷ w) back.0, le-leb sid.0 4294967295 back.1)
    ]

owner_at-back : (bytes : List ℕ) (owner : Option ℕ × List ℕ) → owner_at bytes ≡ Ok owner
    → (bytes ≡ owner_text owner.0 ++ owner.1) × (option_map_or (λ sid. nat_le sid most_id) owner.0 true ≡ true)
unfolding owner_at
owner_at-back bytes owner is =
    let word = bind_ok (field_at bytes) _ owner is in
    let value = bind_ok (if same word.0.0 (codes "keep") then Ok None else sid_of word.0.0 >>= (λ sid. Ok (Some sid))) _ owner word.2 in
    let pair : (value.0, word.0.1) ≡ owner = (let e : Ok (value.0, word.0.1) ≡ Ok owner = value.2 in cc) in
    let back = owner_word word.0.0 value.0 value.1 in (
      field_back bytes word.0 word.1
          ∙ ap (λ (w : List ℕ). w ++ word.0.1) back.0
          ∙ ap (λ (p : Option ℕ × List ℕ). owner_text p.0 ++ p.1) pair,
      subst (λ (p : Option ℕ × List ℕ). option_map_or (λ sid. nat_le sid most_id) p.0 true ≡ true) pair back.1,
    )

-- ---- access lists

-- a mark that stands somewhere, and what is around it
around : (mark : ℕ) (bytes : List ℕ) (next : ℕ) (after : List ℕ) → drop (position_or_len (λ byte. byte == mark) bytes + 1) bytes ≡ next ∷ after
    → bytes ≡ before_first (λ byte. byte == mark) bytes ++ mark ∷ next ∷ after
around mark [] next after is = absurd (let e : [] ≡ next ∷ after = is in cc)
around mark (byte ∷ bytes) next after is =
    elim (cases_Bool (byte == mark)) [
      | inl here ↦
          let rest : bytes ≡ next ∷ after = rw here at is in
          let same : byte ≡ mark = eqb-true byte mark here in
          rw here (ap (λ (b : ℕ). b ∷ bytes) same ∙ ap (λ (more : List ℕ). mark ∷ more) rest)
      | inr other ↦
          let place = position_or_len (λ b. b == mark) bytes in
          let one : 1 + place ≡ suc place = omega arith in
          let two : suc place + 1 ≡ suc (place + 1) = omega arith in
          let later : drop (place + 1) bytes ≡ next ∷ after = rw (other, one, two) at is in
          rw (other, one) (ap (λ (more : List ℕ). byte ∷ more) (around mark bytes next after later))
    ]

mask_some : (word : List ℕ) (mask : ℕ) → mask_of word ≡ Ok mask → (next : ℕ) × (after : List ℕ) × (word ≡ next ∷ after)
unfolding mask_of
mask_some [] mask is = absurd (let e : Err BadSyntax ≡ Ok mask = is in cc)
mask_some (next ∷ after) mask is = (next, after, refl)

abbrev ReadsAce : Ace → List ℕ → Type 0
ReadsAce ace text = (text ≡ ace_text ace) × (is_ace ace ≡ true)

ace_with-back : (allow : Bool) (bytes : List ℕ) (ace : Ace) → ace_with allow bytes ≡ Ok ace → ReadsAce ace (44 ∷ (if allow then 43 else 45) ∷ bytes)
unfolding ace_with
ace_with-back allow bytes ace is =
    let sid = bind_ok (sid_of (before_first (λ byte. byte == 58) bytes)) _ ace is in
    let mask = bind_ok (mask_of (drop (position_or_len (λ byte. byte == 58) bytes + 1) bytes)) _ ace sid.2 in
    let made : record { allow = allow; sid = sid.0; mask = mask.0 } ≡ ace = (let e : Ok (record { allow = allow; sid = sid.0; mask = mask.0 }) ≡ Ok ace = mask.2 in cc) in
    let sid_is = sid_back (before_first (λ byte. byte == 58) bytes) sid.0 sid.1 in
    let mask_is = mask_of-back (drop (position_or_len (λ byte. byte == 58) bytes + 1) bytes) mask.0 mask.1 in
    let some = mask_some (drop (position_or_len (λ byte. byte == 58) bytes + 1) bytes) mask.0 mask.1 in
    let split : bytes ≡ spelled 10 sid.0 ++ 58 ∷ 48 ∷ 120 ∷ spelled 16 mask.0 =
    around 58 bytes some.0 some.1 some.2
    ∙ ap (λ (rest : List ℕ). before_first (λ byte. byte == 58) bytes ++ 58 ∷ rest) (sym some.2 ∙ mask_is.0)
    ∙ ap (λ (front : List ℕ). front ++ 58 ∷ 48 ∷ 120 ∷ spelled 16 mask.0) sid_is.0 in
    subst (λ (a : Ace). ReadsAce a (44 ∷ (if allow then 43 else 45) ∷ bytes)) made (
      ap (λ (rest : List ℕ). 44 ∷ (if allow then 43 else 45) ∷ rest) split,
      rw (le-leb sid.0 4294967295 sid_is.1, le-leb mask.0 4294967295 mask_is.1) refl,
    )

ace_of-back : (bytes : List ℕ) (ace : Ace) → ace_of bytes ≡ Ok ace → ReadsAce ace (44 ∷ bytes)
unfolding ace_of
ace_of-back [] ace is = absurd (let e : Err BadSyntax ≡ Ok ace = is in cc)
ace_of-back (sign ∷ bytes) ace is =
    let parts = if_ok (sign == 43 || sign == 45) (ace_with (sign == 43) bytes) ace is in
    let back = ace_with-back (sign == 43) bytes ace parts.1 in
    subst (λ (s : ℕ). ReadsAce ace (44 ∷ s ∷ bytes)) (signed sign parts.0) back
  where
    signed : (sign : ℕ) → (sign == 43 || sign == 45) ≡ true → (if sign == 43 then 43 else 45) ≡ sign
    signed sign is = elim (cases_Bool (sign == 43)) [
      | inl plus ↦ rw plus (sym (eqb-true sign 43 plus))
      | inr other ↦ let minus : (sign == 45) ≡ true = rw other at is in rw other (sym (eqb-true sign 45 minus))
    ]

ace_onto_ok : (ace : Ace) (read : Result (List Ace) Kind) (value : List Ace) → ace_onto ace read ≡ Ok value → (aces : List Ace) × (read ≡ Ok aces) × (ace ∷ aces ≡ value)
ace_onto_ok ace (Ok aces) value is = (aces, refl, (let e : Ok (ace ∷ aces) ≡ Ok value = is in cc))
ace_onto_ok ace (Err kind) value is = absurd (let e : Err kind ≡ Ok value = is in cc)

abbrev ReadsAces : ℕ → List Ace → List ℕ → Type 0
ReadsAces most aces text = (text ≡ flat_map ace_text aces) × (list_all is_ace aces ≡ true) × (length aces ≤ most)

no_aces : (most : ℕ) (aces : List Ace) → [] ≡ aces → ReadsAces most aces []
no_aces most aces none = subst (λ (a : List Ace). ReadsAces most a []) none (refl, refl, omega arith)

aces_of-back : (most : ℕ) (bytes : List ℕ) (aces : List Ace) → aces_of most bytes ≡ Ok aces → ReadsAces most aces bytes
unfolding aces_of
aces_of-back zero bytes aces is =
    let parts = only_if_ok (length bytes == 0) [] aces is in
    subst (λ (b : List ℕ). ReadsAces zero aces b) (sym (none_left bytes parts.0)) (no_aces zero aces parts.1)
aces_of-back (suc most) [] aces is = no_aces (suc most) aces (let e : Ok [] ≡ Ok aces = is in cc)
aces_of-back (suc most) (comma ∷ bytes) aces is =
    let parts = if_ok (comma == 44) (ace_of (before_comma bytes) >>= (λ ace. ace_onto ace (aces_of most (after_entry bytes)))) aces is in
    let ace = bind_ok (ace_of (before_comma bytes)) (λ ace. ace_onto ace (aces_of most (after_entry bytes))) aces parts.1 in
    let more = ace_onto_ok ace.0 (aces_of most (after_entry bytes)) aces ace.2 in
    let first = ace_of-back (before_comma bytes) ace.0 ace.1 in
    let rest = aces_of-back most (after_entry bytes) more.0 more.1 in
    let few : length more.0 ≤ most = rest.2 in
    subst (λ (a : List Ace). ReadsAces (suc most) a (comma ∷ bytes)) more.2 (
      ap (λ (b : ℕ). b ∷ bytes) (eqb-true comma 44 parts.0)
          ∙ ap (λ (all : List ℕ). 44 ∷ all) (sym (take-append-drop (position_or_len (λ byte. byte == 44) bytes) bytes))
          ∙ ap (λ (front : List ℕ). front ++ after_entry bytes) first.0
          ∙ ap (λ (back : List ℕ). ace_text ace.0 ++ back) rest.0,
      rw first.1 rest.1,
      omega arith,
    )

abbrev ReadsDacl : DaclChange → List ℕ → Type 0
ReadsDacl dacl text = (text ≡ dacl_text dacl) × (is_dacl dacl ≡ true)

put_back : (word : List ℕ) (dacl : DaclChange) → (starts_with nat_eq word (codes "acl")) ≡ true → aces_of most_aces (drop 3 word) >>= (λ aces. Ok (Put (full aces))) ≡ Ok dacl → ReadsDacl dacl (32 ∷ word)
put_back word dacl starts is =
    let aces = bind_ok (aces_of most_aces (drop 3 word)) (λ aces. Ok (Put (full aces))) dacl is in
    let made : Put (full aces.0) ≡ dacl = (let e : Ok (Put (full aces.0)) ≡ Ok dacl = aces.2 in cc) in
    let back = aces_of-back most_aces (drop 3 word) aces.0 aces.1 in
    subst (λ (d : DaclChange). ReadsDacl d (32 ∷ word)) made (
      ap (λ (w : List ℕ). 32 ∷ w) (starts-is word (codes "acl") starts) ∙ ap (λ (rest : List ℕ). 32 ∷ (codes "acl" ++ rest)) back.0,
      rw (back.1, le-leb (length aces.0) most_aces back.2, eq-eqb (length aces.0) (length aces.0) refl) refl,
    )

dacl_of-back : (word : List ℕ) (dacl : DaclChange) → dacl_of word ≡ Ok dacl → ReadsDacl dacl (32 ∷ word)
unfolding dacl_of
dacl_of-back word dacl is =
    elim (if_or (same word (codes "keep")) (Ok Keep) _ dacl is) [
      | inl kept ↦
          let made : Keep ≡ dacl = (let e : Ok Keep ≡ Ok dacl = kept.1 in cc) in
          subst (λ (d : DaclChange). ReadsDacl d (32 ∷ word)) made (ap (λ (w : List ℕ). 32 ∷ w) (same-is word (codes "keep") kept.0), refl)
      | inr others ↦
          elim (if_or (same word (codes "null")) (Ok Remove) _ dacl others) [
            | inl removed ↦
                let made : Remove ≡ dacl = (let e : Ok Remove ≡ Ok dacl = removed.1 in cc) in
                subst (λ (d : DaclChange). ReadsDacl d (32 ∷ word)) made (ap (λ (w : List ℕ). 32 ∷ w) (same-is word (codes "null") removed.0), refl)
            | inr put ↦
                let parts = if_ok (starts_with nat_eq word (codes "acl")) (aces_of most_aces (drop 3 word) >>= (λ aces. Ok (Put (full aces)))) dacl put in
                put_back word dacl parts.0 parts.1
          ]
    ]

dacl_at-back : (bytes : List ℕ) (dacl : DaclChange × List ℕ) → dacl_at bytes ≡ Ok dacl → (bytes ≡ dacl_text dacl.0 ++ dacl.1) × (is_dacl dacl.0 ≡ true)
unfolding dacl_at
dacl_at-back bytes dacl is =
    let word = bind_ok (field_at bytes) _ dacl is in
    let value = bind_ok (dacl_of word.0.0) _ dacl word.2 in
    let pair : (value.0, word.0.1) ≡ dacl = (let e : Ok (value.0, word.0.1) ≡ Ok dacl = value.2 in cc) in
    let back = dacl_of-back word.0.0 value.0 value.1 in (
      field_back bytes word.0 word.1 ∙ ap (λ (w : List ℕ). w ++ word.0.1) back.0 ∙ ap (λ (p : DaclChange × List ℕ). dacl_text p.0 ++ p.1) pair,
      subst (λ (p : DaclChange × List ℕ). is_dacl p.0 ≡ true) pair back.1,
    )

-- ---- dispositions

disposition_case : (word name : List ℕ) (this disposition : Disposition) (other : Result Disposition Kind) → disposition_text this ≡ 32 ∷ name
    → (if same word name then Ok this else other) ≡ Ok disposition → (other ≡ Ok disposition → 32 ∷ word ≡ disposition_text disposition) → 32 ∷ word ≡ disposition_text disposition
disposition_case word name this disposition other text is else_so =
    elim (if_or (same word name) (Ok this) other disposition is) [
      | inl h ↦
          let made : this ≡ disposition = (let e : Ok this ≡ Ok disposition = h.1 in cc) in
          ap (λ (w : List ℕ). 32 ∷ w) (same-is word name h.0) ∙ sym text ∙ ap disposition_text made
      | inr h ↦ else_so h
    ]

disposition_of-back : (word : List ℕ) (disposition : Disposition) → disposition_of word ≡ Ok disposition → 32 ∷ word ≡ disposition_text disposition
disposition_of-back word disposition is =
    disposition_case word (codes "supersede") Supersede disposition _ refl is (λ is.
    disposition_case word (codes "open") OpenExisting disposition _ refl is (λ is.
    disposition_case word (codes "create") CreateNew disposition _ refl is (λ is.
    disposition_case word (codes "open_if") OpenIf disposition _ refl is (λ is.
    disposition_case word (codes "overwrite") Overwrite disposition _ refl is (λ is.
    disposition_case word (codes "overwrite_if") OverwriteIf disposition (Err BadSyntax) refl is (λ is. absurd (let e : Err BadSyntax ≡ Ok disposition = is in cc)))))))

disposition_at-back : (bytes : List ℕ) (disposition : Disposition × List ℕ) → disposition_at bytes ≡ Ok disposition → bytes ≡ disposition_text disposition.0 ++ disposition.1
unfolding disposition_at
disposition_at-back bytes disposition is =
    let word = bind_ok (field_at bytes) _ disposition is in
    let value = bind_ok (disposition_of word.0.0) _ disposition word.2 in
    let pair : (value.0, word.0.1) ≡ disposition = (let e : Ok (value.0, word.0.1) ≡ Ok disposition = value.2 in cc) in
    field_back bytes word.0 word.1 ∙ ap (λ (w : List ℕ). w ++ word.0.1) (disposition_of-back word.0.0 value.0 value.1) ∙ ap (λ (p : Disposition × List ℕ). disposition_text p.0 ++ p.1) pair

-- ---- levels

level_case : (word name : List ℕ) (this level : Level) (other : Result Level Kind) → level_text this ≡ 32 ∷ name
    → (if same word name then Ok this else other) ≡ Ok level → (other ≡ Ok level → 32 ∷ word ≡ level_text level) → 32 ∷ word ≡ level_text level
level_case word name this level other text is else_so =
    elim (if_or (same word name) (Ok this) other level is) [
      | inl h ↦
          let made : this ≡ level = (let e : Ok this ≡ Ok level = h.1 in cc) in
          ap (λ (w : List ℕ). 32 ∷ w) (same-is word name h.0) ∙ sym text ∙ ap level_text made
      | inr h ↦ else_so h
    ]

level_of-back : (word : List ℕ) (level : Level) → level_of_word word ≡ Ok level → 32 ∷ word ≡ level_text level
level_of-back word level is =
    level_case word (codes "none") Nil level _ refl is (λ is.
    level_case word (codes "r") R level _ refl is (λ is.
    level_case word (codes "rh") RH level _ refl is (λ is.
    level_case word (codes "rw") RW level _ refl is (λ is.
    level_case word (codes "rwh") RWH level (Err BadSyntax) refl is (λ is. absurd (let e : Err BadSyntax ≡ Ok level = is in cc))))))

level_at-back : (bytes : List ℕ) (level : Level × List ℕ) → level_at bytes ≡ Ok level → bytes ≡ level_text level.0 ++ level.1
unfolding level_at
level_at-back bytes level is =
    let word = bind_ok (field_at bytes) _ level is in
    let value = bind_ok (level_of_word word.0.0) _ level word.2 in
    let pair : (value.0, word.0.1) ≡ level = (let e : Ok (value.0, word.0.1) ≡ Ok level = value.2 in cc) in
    field_back bytes word.0 word.1 ∙ ap (λ (w : List ℕ). w ++ word.0.1) (level_of-back word.0.0 value.0 value.1) ∙ ap (λ (p : Level × List ℕ). level_text p.0 ++ p.1) pair

-- ---- kinds of information, and layouts of entries

info_kind_case : (word name : List ℕ) (this kind : InfoKind) (other : Result InfoKind Kind) → info_kind_text this ≡ 32 ∷ name
    → (if same word name then Ok this else other) ≡ Ok kind → (other ≡ Ok kind → 32 ∷ word ≡ info_kind_text kind) → 32 ∷ word ≡ info_kind_text kind
info_kind_case word name this kind other text is else_so =
    elim (if_or (same word name) (Ok this) other kind is) [
      | inl h ↦
          let made : this ≡ kind = (let e : Ok this ≡ Ok kind = h.1 in cc) in
          ap (λ (w : List ℕ). 32 ∷ w) (same-is word name h.0) ∙ sym text ∙ ap info_kind_text made
      | inr h ↦ else_so h
    ]

info_kind_of-back : (word : List ℕ) (kind : InfoKind) → info_kind_of word ≡ Ok kind → 32 ∷ word ≡ info_kind_text kind
info_kind_of-back word kind is =
    info_kind_case word (codes "basic") Basic kind _ refl is (λ is.
    info_kind_case word (codes "standard") Standard kind _ refl is (λ is.
    info_kind_case word (codes "internal") Internal kind _ refl is (λ is.
    info_kind_case word (codes "tag") Tag kind _ refl is (λ is.
    info_kind_case word (codes "stream") Streams kind (Err BadSyntax) refl is (λ is. absurd (let e : Err BadSyntax ≡ Ok kind = is in cc))))))

info_kind_at-back : (bytes : List ℕ) (kind : InfoKind × List ℕ) → info_kind_at bytes ≡ Ok kind → bytes ≡ info_kind_text kind.0 ++ kind.1
unfolding info_kind_at
info_kind_at-back bytes kind is =
    let word = bind_ok (field_at bytes) _ kind is in
    let value = bind_ok (info_kind_of word.0.0) _ kind word.2 in
    let pair : (value.0, word.0.1) ≡ kind = (let e : Ok (value.0, word.0.1) ≡ Ok kind = value.2 in cc) in
    field_back bytes word.0 word.1 ∙ ap (λ (w : List ℕ). w ++ word.0.1) (info_kind_of-back word.0.0 value.0 value.1) ∙ ap (λ (p : InfoKind × List ℕ). info_kind_text p.0 ++ p.1) pair

dir_kind_case : (word name : List ℕ) (this kind : DirKind) (other : Result DirKind Kind) → dir_kind_text this ≡ 32 ∷ name
    → (if same word name then Ok this else other) ≡ Ok kind → (other ≡ Ok kind → 32 ∷ word ≡ dir_kind_text kind) → 32 ∷ word ≡ dir_kind_text kind
dir_kind_case word name this kind other text is else_so =
    elim (if_or (same word name) (Ok this) other kind is) [
      | inl h ↦
          let made : this ≡ kind = (let e : Ok this ≡ Ok kind = h.1 in cc) in
          ap (λ (w : List ℕ). 32 ∷ w) (same-is word name h.0) ∙ sym text ∙ ap dir_kind_text made
      | inr h ↦ else_so h
    ]

dir_kind_of-back : (word : List ℕ) (kind : DirKind) → dir_kind_of word ≡ Ok kind → 32 ∷ word ≡ dir_kind_text kind
dir_kind_of-back word kind is =
    dir_kind_case word (codes "names") Names kind _ refl is (λ is.
    dir_kind_case word (codes "dir") Dir kind _ refl is (λ is.
    dir_kind_case word (codes "full") Full kind _ refl is (λ is.
    dir_kind_case word (codes "idfull") IdFull kind (Err BadSyntax) refl is (λ is. absurd (let e : Err BadSyntax ≡ Ok kind = is in cc)))))

dir_kind_at-back : (bytes : List ℕ) (kind : DirKind × List ℕ) → dir_kind_at bytes ≡ Ok kind → bytes ≡ dir_kind_text kind.0 ++ kind.1
unfolding dir_kind_at
dir_kind_at-back bytes kind is =
    let word = bind_ok (field_at bytes) _ kind is in
    let value = bind_ok (dir_kind_of word.0.0) _ kind word.2 in
    let pair : (value.0, word.0.1) ≡ kind = (let e : Ok (value.0, word.0.1) ≡ Ok kind = value.2 in cc) in
    field_back bytes word.0 word.1 ∙ ap (λ (w : List ℕ). w ++ word.0.1) (dir_kind_of-back word.0.0 value.0 value.1) ∙ ap (λ (p : DirKind × List ℕ). dir_kind_text p.0 ++ p.1) pair

-- ---- words of two, and where a write begins

choice_of-back : (first second word : List ℕ) (choice : Bool) → choice_of first second word ≡ Ok choice → 32 ∷ word ≡ choice_text first second choice
choice_of-back first second word choice is =
    elim (if_or (same word first) (Ok true) (if same word second then Ok false else Err BadSyntax) choice is) [
      | inl h ↦
          let made : true ≡ choice = (let e : Ok true ≡ Ok choice = h.1 in cc) in
          ap (λ (w : List ℕ). 32 ∷ w) (same-is word first h.0) ∙ ap (choice_text first second) made
      | inr h ↦
          let parts = if_ok (same word second) (Ok false) choice h in
          let made : false ≡ choice = (let e : Ok false ≡ Ok choice = parts.1 in cc) in
          ap (λ (w : List ℕ). 32 ∷ w) (same-is word second parts.0) ∙ ap (choice_text first second) made
    ]

choice_at-back : (first second bytes : List ℕ) (choice : Bool × List ℕ) → choice_at first second bytes ≡ Ok choice → bytes ≡ choice_text first second choice.0 ++ choice.1
unfolding choice_at
choice_at-back first second bytes choice is =
    let word = bind_ok (field_at bytes) _ choice is in
    let value = bind_ok (choice_of first second word.0.0) _ choice word.2 in
    let pair : (value.0, word.0.1) ≡ choice = (let e : Ok (value.0, word.0.1) ≡ Ok choice = value.2 in cc) in
    field_back bytes word.0 word.1 ∙ ap (λ (w : List ℕ). w ++ word.0.1) (choice_of-back first second word.0.0 value.0 value.1) ∙ ap (λ (p : Bool × List ℕ). choice_text first second p.0 ++ p.1) pair

abbrev ReadsStart : Option ℕ → List ℕ → Type 0
ReadsStart start text = (text ≡ start_text start) × (option_map_or (λ place. nat_le place most_place) start true ≡ true)

start_word : (word : List ℕ) (start : Option ℕ) → (if same word (codes "end") then Ok None else written_place word >>= (λ place. Ok (Some place))) ≡ Ok start → ReadsStart start (32 ∷ word)
start_word word start is =
    elim (if_or (same word (codes "end")) (Ok None) (written_place word >>= (λ place. Ok (Some place))) start is) [
      | inl ended ↦
          let none : None ≡ start = (let e : Ok None ≡ Ok start = ended.1 in cc) in
          subst (λ (s : Option ℕ). ReadsStart s (32 ∷ word)) none (ap (λ (w : List ℕ). 32 ∷ w) (same-is word (codes "end") ended.0), refl)
      | inr read ↦
          let place = bind_ok (written_place word) (λ p. Ok (Some p)) start read in
          let some : Some place.0 ≡ start = (let e : Ok (Some place.0) ≡ Ok start = place.2 in cc) in
          let number : written_number 10 most_place word ≡ Some place.0 = read_as_ok (written_number 10 most_place word) place.0 place.1 in
          subst (λ (s : Option ℕ). ReadsStart s (32 ∷ word)) some (
            ap (λ (w : List ℕ). 32 ∷ w) (number_back 10 most_place place.0 word (omega arith) (omega arith) number),
            le-leb place.0 most_place (number_of-most 10 most_place place.0 word number),
          )
    ]

start_at-back : (bytes : List ℕ) (start : Option ℕ × List ℕ) → start_at bytes ≡ Ok start
    → (bytes ≡ start_text start.0 ++ start.1) × (option_map_or (λ place. nat_le place most_place) start.0 true ≡ true)
unfolding start_at
start_at-back bytes start is =
    let word = bind_ok (field_at bytes) _ start is in
    let value = bind_ok (if same word.0.0 (codes "end") then Ok None else written_place word.0.0 >>= (λ place. Ok (Some place))) _ start word.2 in
    let pair : (value.0, word.0.1) ≡ start = (let e : Ok (value.0, word.0.1) ≡ Ok start = value.2 in cc) in
    let back = start_word word.0.0 value.0 value.1 in (
      field_back bytes word.0 word.1
          ∙ ap (λ (w : List ℕ). w ++ word.0.1) back.0
          ∙ ap (λ (p : Option ℕ × List ℕ). start_text p.0 ++ p.1) pair,
      subst (λ (p : Option ℕ × List ℕ). option_map_or (λ place. nat_le place most_place) p.0 true ≡ true) pair back.1,
    )

-- ---- the fields of each verb

-- what was read is said by a verb of this name, whose fields these bytes write
abbrev ReadsVerb : List ℕ → What → List ℕ → Type 0
ReadsVerb name what fields = (verb what ≡ name) × SpellsFields what fields × (can_be_spelled what ≡ true)

close_back : (fields : List ℕ) (what : What) → close_fields fields ≡ Ok what → ReadsVerb (codes "close") what fields
unfolding close_fields
close_back fields what is =
    let handle = bind_ok (number_at most_id fields) _ what is in
    let last = ended_ok handle.0.1 (Ask (Close handle.0.0)) what handle.2 in
    let first = number_at-back most_id fields handle.0 handle.1 in
    subst (λ (w : What). ReadsVerb (codes "close") w fields) last.1
    (refl, first.0 ∙ ap (λ (rest : List ℕ). number_text handle.0.0 ++ rest) last.0 ∙ append-nil (number_text handle.0.0), le-leb handle.0.0 4294967295 first.1)

tick_back : (fields : List ℕ) (what : What) → tick_fields fields ≡ Ok what → ReadsVerb (codes "tick") what fields
unfolding tick_fields
tick_back fields what is =
    let ticks = bind_ok (number_at most_id fields) _ what is in
    let last = ended_ok ticks.0.1 (Tick ticks.0.0) what ticks.2 in
    let first = number_at-back most_id fields ticks.0 ticks.1 in
    subst (λ (w : What). ReadsVerb (codes "tick") w fields) last.1
    (refl, first.0 ∙ ap (λ (rest : List ℕ). number_text ticks.0.0 ++ rest) last.0 ∙ append-nil (number_text ticks.0.0), le-leb ticks.0.0 4294967295 first.1)

read_back : (fields : List ℕ) (what : What) → read_fields fields ≡ Ok what → ReadsVerb (codes "read") what fields
unfolding read_fields
read_back fields what is =
    let handle = bind_ok (number_at most_id fields) _ what is in
    let place = bind_ok (number_at most_place handle.0.1) _ what handle.2 in
    let count = bind_ok (number_at 16384 place.0.1) _ what place.2 in
    let last = ended_ok count.0.1 (Ask (Read handle.0.0 place.0.0 count.0.0)) what count.2 in
    let first = number_at-back most_id fields handle.0 handle.1 in
    let second = number_at-back most_place handle.0.1 place.0 place.1 in
    let third = number_at-back 16384 place.0.1 count.0 count.1 in
    subst (λ (w : What). ReadsVerb (codes "read") w fields) last.1 (
      refl,
      first.0
          ∙ ap (λ (rest : List ℕ). number_text handle.0.0 ++ rest) (second.0
          ∙ ap (λ (rest : List ℕ). number_text place.0.0 ++ rest) (third.0
          ∙ ap (λ (rest : List ℕ). number_text count.0.0 ++ rest) last.0 ∙ append-nil (number_text count.0.0))),
      rw (le-leb handle.0.0 4294967295 first.1, le-leb place.0.0 most_place second.1, le-leb count.0.0 16384 third.1) refl,
    )

write_back : (fields : List ℕ) (what : What) → write_fields fields ≡ Ok what → ReadsVerb (codes "write") what fields
unfolding write_fields
write_back fields what is =
    let handle = bind_ok (number_at most_id fields) _ what is in
    let start = bind_ok (start_at handle.0.1) _ what handle.2 in
    let string = bind_ok (string_at start.0.1) _ what start.2 in
    let last = ended_ok string.0.1 (Ask (Write handle.0.0 start.0.0 string.0.0)) what string.2 in
    let first = number_at-back most_id fields handle.0 handle.1 in
    let second = start_at-back handle.0.1 start.0 start.1 in
    let third = string_at-back start.0.1 string.0 string.1 in
    subst (λ (w : What). ReadsVerb (codes "write") w fields) last.1 (
      refl,
      first.0
          ∙ ap (λ (rest : List ℕ). number_text handle.0.0 ++ rest) (second.0
          ∙ ap (λ (rest : List ℕ). start_text start.0.0 ++ rest) (third.0
          ∙ ap (λ (rest : List ℕ). string_text string.0.0 ++ rest) last.0 ∙ append-nil (string_text string.0.0))),
      rw (le-leb handle.0.0 4294967295 first.1, second.1, third.1, le-leb (length string.0.0) 16384 third.2) refl,
    )

flush_back : (fields : List ℕ) (what : What) → flush_fields fields ≡ Ok what → ReadsVerb (codes "flush") what fields
unfolding flush_fields
flush_back fields what is =
    let handle = bind_ok (number_at most_id fields) _ what is in
    let last = ended_ok handle.0.1 (Ask (Flush handle.0.0)) what handle.2 in
    let first = number_at-back most_id fields handle.0 handle.1 in
    subst (λ (w : What). ReadsVerb (codes "flush") w fields) last.1
    (refl, first.0 ∙ ap (λ (rest : List ℕ). number_text handle.0.0 ++ rest) last.0 ∙ append-nil (number_text handle.0.0), le-leb handle.0.0 4294967295 first.1)

set_end_back : (fields : List ℕ) (what : What) → set_end_fields fields ≡ Ok what → ReadsVerb (codes "setend") what fields
unfolding set_end_fields
set_end_back fields what is =
    let handle = bind_ok (number_at most_id fields) _ what is in
    let length = bind_ok (number_at most_place handle.0.1) _ what handle.2 in
    let last = ended_ok length.0.1 (Ask (SetEnd handle.0.0 length.0.0)) what length.2 in
    let first = number_at-back most_id fields handle.0 handle.1 in
    let second = number_at-back most_place handle.0.1 length.0 length.1 in
    subst (λ (w : What). ReadsVerb (codes "setend") w fields) last.1 (
      refl,
      first.0
          ∙ ap (λ (rest : List ℕ). number_text handle.0.0 ++ rest) (second.0
          ∙ ap (λ (rest : List ℕ). number_text length.0.0 ++ rest) last.0 ∙ append-nil (number_text length.0.0)),
      rw (le-leb handle.0.0 4294967295 first.1, le-leb length.0.0 most_place second.1) refl,
    )

lock_back : (fields : List ℕ) (what : What) → lock_fields fields ≡ Ok what → ReadsVerb (codes "lock") what fields
unfolding lock_fields
lock_back fields what is =
    let handle = bind_ok (number_at most_id fields) _ what is in
    let place = bind_ok (number_at most_place handle.0.1) _ what handle.2 in
    let count = bind_ok (number_at most_place place.0.1) _ what place.2 in
    let exclusive = bind_ok (choice_at (codes "ex") (codes "sh") count.0.1) _ what count.2 in
    let wait = bind_ok (choice_at (codes "wait") (codes "now") exclusive.0.1) _ what exclusive.2 in
    let last = ended_ok wait.0.1 (Ask (Lock handle.0.0 place.0.0 count.0.0 exclusive.0.0 wait.0.0)) what wait.2 in
    let first = number_at-back most_id fields handle.0 handle.1 in
    let second = number_at-back most_place handle.0.1 place.0 place.1 in
    let third = number_at-back most_place place.0.1 count.0 count.1 in
    let fourth = choice_at-back (codes "ex") (codes "sh") count.0.1 exclusive.0 exclusive.1 in
    let fifth = choice_at-back (codes "wait") (codes "now") exclusive.0.1 wait.0 wait.1 in
    subst (λ (w : What). ReadsVerb (codes "lock") w fields) last.1 (
      refl,
      first.0
          ∙ ap (λ (rest : List ℕ). number_text handle.0.0 ++ rest) (second.0
          ∙ ap (λ (rest : List ℕ). number_text place.0.0 ++ rest) (third.0
          ∙ ap (λ (rest : List ℕ). number_text count.0.0 ++ rest) (fourth
          ∙ ap (λ (rest : List ℕ). choice_text (codes "ex") (codes "sh") exclusive.0.0 ++ rest) (fifth
          ∙ ap (λ (rest : List ℕ). choice_text (codes "wait") (codes "now") wait.0.0 ++ rest) last.0 ∙ append-nil (choice_text (codes "wait") (codes "now") wait.0.0))))),
      rw (le-leb handle.0.0 4294967295 first.1, le-leb place.0.0 most_place second.1, le-leb count.0.0 most_place third.1) refl,
    )

unlock_back : (fields : List ℕ) (what : What) → unlock_fields fields ≡ Ok what → ReadsVerb (codes "unlock") what fields
unfolding unlock_fields
unlock_back fields what is =
    let handle = bind_ok (number_at most_id fields) _ what is in
    let place = bind_ok (number_at most_place handle.0.1) _ what handle.2 in
    let count = bind_ok (number_at most_place place.0.1) _ what place.2 in
    let last = ended_ok count.0.1 (Ask (Unlock handle.0.0 place.0.0 count.0.0)) what count.2 in
    let first = number_at-back most_id fields handle.0 handle.1 in
    let second = number_at-back most_place handle.0.1 place.0 place.1 in
    let third = number_at-back most_place place.0.1 count.0 count.1 in
    subst (λ (w : What). ReadsVerb (codes "unlock") w fields) last.1 (
      refl,
      first.0
          ∙ ap (λ (rest : List ℕ). number_text handle.0.0 ++ rest) (second.0
          ∙ ap (λ (rest : List ℕ). number_text place.0.0 ++ rest) (third.0
          ∙ ap (λ (rest : List ℕ). number_text count.0.0 ++ rest) last.0 ∙ append-nil (number_text count.0.0))),
      rw (le-leb handle.0.0 4294967295 first.1, le-leb place.0.0 most_place second.1, le-leb count.0.0 most_place third.1) refl,
    )

oplock_back : (fields : List ℕ) (what : What) → oplock_fields fields ≡ Ok what → ReadsVerb (codes "oplock") what fields
unfolding oplock_fields
oplock_back fields what is =
    let handle = bind_ok (number_at most_id fields) _ what is in
    let level = bind_ok (level_at handle.0.1) _ what handle.2 in
    let said = bind_ok (only_if (level_fits level.0.0) (Ask (Oplock handle.0.0 level.0.0))) _ what level.2 in
    let asked = only_if_ok (level_fits level.0.0) (Ask (Oplock handle.0.0 level.0.0)) said.0 said.1 in
    let last = ended_ok level.0.1 said.0 what said.2 in
    let first = number_at-back most_id fields handle.0 handle.1 in
    let second = level_at-back handle.0.1 level.0 level.1 in
    subst (λ (w : What). ReadsVerb (codes "oplock") w fields) (asked.1 ∙ last.1) (
      refl,
      first.0
          ∙ ap (λ (rest : List ℕ). number_text handle.0.0 ++ rest) (second
          ∙ ap (λ (rest : List ℕ). level_text level.0.0 ++ rest) last.0 ∙ append-nil (level_text level.0.0)),
      rw (le-leb handle.0.0 4294967295 first.1, asked.0) refl,
    )

ack_back : (fields : List ℕ) (what : What) → ack_fields fields ≡ Ok what → ReadsVerb (codes "ack") what fields
unfolding ack_fields
ack_back fields what is =
    let handle = bind_ok (number_at most_id fields) _ what is in
    let level = bind_ok (level_at handle.0.1) _ what handle.2 in
    let last = ended_ok level.0.1 (Ask (Ack handle.0.0 level.0.0)) what level.2 in
    let first = number_at-back most_id fields handle.0 handle.1 in
    let second = level_at-back handle.0.1 level.0 level.1 in
    subst (λ (w : What). ReadsVerb (codes "ack") w fields) last.1 (
      refl,
      first.0
          ∙ ap (λ (rest : List ℕ). number_text handle.0.0 ++ rest) (second
          ∙ ap (λ (rest : List ℕ). level_text level.0.0 ++ rest) last.0 ∙ append-nil (level_text level.0.0)),
      le-leb handle.0.0 4294967295 first.1,
    )

rename_back : (fields : List ℕ) (what : What) → rename_fields fields ≡ Ok what → ReadsVerb (codes "rename") what fields
unfolding rename_fields
rename_back fields what is =
    let handle = bind_ok (number_at most_id fields) _ what is in
    let path = bind_ok (text_at handle.0.1) _ what handle.2 in
    let replace = bind_ok (choice_at (codes "replace") (codes "keep") path.0.1) _ what path.2 in
    let last = ended_ok replace.0.1 (Ask (Rename handle.0.0 path.0.0 replace.0.0)) what replace.2 in
    let first = number_at-back most_id fields handle.0 handle.1 in
    let second = text_at-back handle.0.1 path.0 path.1 in
    let third = choice_at-back (codes "replace") (codes "keep") path.0.1 replace.0 replace.1 in
    subst (λ (w : What). ReadsVerb (codes "rename") w fields) last.1 (
      refl,
      (
        second.0,
        second.1.0,
        first.0
            ∙ ap (λ (rest : List ℕ). number_text handle.0.0 ++ rest) (second.2
            ∙ ap (λ (rest : List ℕ). 32 ∷ 61 ∷ (second.0 ++ rest)) (third
            ∙ ap (λ (rest : List ℕ). choice_text (codes "replace") (codes "keep") replace.0.0 ++ rest) last.0 ∙ append-nil (choice_text (codes "replace") (codes "keep") replace.0.0))),
      ),
      rw (le-leb handle.0.0 4294967295 first.1, second.1.1) refl,
    )

link_back : (fields : List ℕ) (what : What) → link_fields fields ≡ Ok what → ReadsVerb (codes "link") what fields
unfolding link_fields
link_back fields what is =
    let handle = bind_ok (number_at most_id fields) _ what is in
    let path = bind_ok (text_at handle.0.1) _ what handle.2 in
    let replace = bind_ok (choice_at (codes "replace") (codes "keep") path.0.1) _ what path.2 in
    let last = ended_ok replace.0.1 (Ask (Link handle.0.0 path.0.0 replace.0.0)) what replace.2 in
    let first = number_at-back most_id fields handle.0 handle.1 in
    let second = text_at-back handle.0.1 path.0 path.1 in
    let third = choice_at-back (codes "replace") (codes "keep") path.0.1 replace.0 replace.1 in
    subst (λ (w : What). ReadsVerb (codes "link") w fields) last.1 (
      refl,
      (
        second.0,
        second.1.0,
        first.0
            ∙ ap (λ (rest : List ℕ). number_text handle.0.0 ++ rest) (second.2
            ∙ ap (λ (rest : List ℕ). 32 ∷ 61 ∷ (second.0 ++ rest)) (third
            ∙ ap (λ (rest : List ℕ). choice_text (codes "replace") (codes "keep") replace.0.0 ++ rest) last.0 ∙ append-nil (choice_text (codes "replace") (codes "keep") replace.0.0))),
      ),
      rw (le-leb handle.0.0 4294967295 first.1, second.1.1) refl,
    )

set_disposition_back : (fields : List ℕ) (what : What) → set_disposition_fields fields ≡ Ok what → ReadsVerb (codes "setdelete") what fields
unfolding set_disposition_fields
set_disposition_back fields what is =
    let handle = bind_ok (number_at most_id fields) _ what is in
    let delete = bind_ok (choice_at (codes "yes") (codes "no") handle.0.1) _ what handle.2 in
    let last = ended_ok delete.0.1 (Ask (SetDisposition handle.0.0 delete.0.0)) what delete.2 in
    let first = number_at-back most_id fields handle.0 handle.1 in
    let second = choice_at-back (codes "yes") (codes "no") handle.0.1 delete.0 delete.1 in
    subst (λ (w : What). ReadsVerb (codes "setdelete") w fields) last.1 (
      refl,
      first.0
          ∙ ap (λ (rest : List ℕ). number_text handle.0.0 ++ rest) (second
          ∙ ap (λ (rest : List ℕ). choice_text (codes "yes") (codes "no") delete.0.0 ++ rest) last.0 ∙ append-nil (choice_text (codes "yes") (codes "no") delete.0.0)),
      le-leb handle.0.0 4294967295 first.1,
    )

cancel_back : (fields : List ℕ) (what : What) → cancel_fields fields ≡ Ok what → ReadsVerb (codes "cancel") what fields
unfolding cancel_fields
cancel_back fields what is =
    let number = bind_ok (number_at most_id fields) _ what is in
    let last = ended_ok number.0.1 (Ask (Cancel number.0.0)) what number.2 in
    let first = number_at-back most_id fields number.0 number.1 in
    subst (λ (w : What). ReadsVerb (codes "cancel") w fields) last.1
    (refl, first.0 ∙ ap (λ (rest : List ℕ). number_text number.0.0 ++ rest) last.0 ∙ append-nil (number_text number.0.0), le-leb number.0.0 4294967295 first.1)

wait_back : (fields : List ℕ) (what : What) → wait_fields fields ≡ Ok what → ReadsVerb (codes "wait") what fields
unfolding wait_fields
wait_back fields what is =
    let number = bind_ok (number_at most_id fields) _ what is in
    let last = ended_ok number.0.1 (WaitFor number.0.0) what number.2 in
    let first = number_at-back most_id fields number.0 number.1 in
    subst (λ (w : What). ReadsVerb (codes "wait") w fields) last.1
    (refl, first.0 ∙ ap (λ (rest : List ℕ). number_text number.0.0 ++ rest) last.0 ∙ append-nil (number_text number.0.0), le-leb number.0.0 4294967295 first.1)

set_security_back : (fields : List ℕ) (what : What) → set_security_fields fields ≡ Ok what → ReadsVerb (codes "setsecurity") what fields
unfolding set_security_fields
set_security_back fields what is =
    let handle = bind_ok (number_at most_id fields) _ what is in
    let owner = bind_ok (owner_at handle.0.1) _ what handle.2 in
    let dacl = bind_ok (dacl_at owner.0.1) _ what owner.2 in
    let last = ended_ok dacl.0.1 (Ask (SetSecurity handle.0.0 owner.0.0 dacl.0.0)) what dacl.2 in
    let first = number_at-back most_id fields handle.0 handle.1 in
    let second = owner_at-back handle.0.1 owner.0 owner.1 in
    let third = dacl_at-back owner.0.1 dacl.0 dacl.1 in
    subst (λ (w : What). ReadsVerb (codes "setsecurity") w fields) last.1 (
      refl,
      first.0
          ∙ ap (λ (rest : List ℕ). number_text handle.0.0 ++ rest) (second.0
          ∙ ap (λ (rest : List ℕ). owner_text owner.0.0 ++ rest) (third.0
          ∙ ap (λ (rest : List ℕ). dacl_text dacl.0.0 ++ rest) last.0 ∙ append-nil (dacl_text dacl.0.0))),
      rw (le-leb handle.0.0 4294967295 first.1, second.1, third.1) refl,
    )

query_info_back : (fields : List ℕ) (what : What) → query_info_fields fields ≡ Ok what → ReadsVerb (codes "query") what fields
unfolding query_info_fields
query_info_back fields what is =
    let handle = bind_ok (number_at most_id fields) _ what is in
    let kind = bind_ok (info_kind_at handle.0.1) _ what handle.2 in
    let room = bind_ok (number_at 16384 kind.0.1) _ what kind.2 in
    let last = ended_ok room.0.1 (Ask (QueryInfo handle.0.0 kind.0.0 room.0.0)) what room.2 in
    let first = number_at-back most_id fields handle.0 handle.1 in
    let second = info_kind_at-back handle.0.1 kind.0 kind.1 in
    let third = number_at-back 16384 kind.0.1 room.0 room.1 in
    subst (λ (w : What). ReadsVerb (codes "query") w fields) last.1 (
      refl,
      first.0
          ∙ ap (λ (rest : List ℕ). number_text handle.0.0 ++ rest) (second
          ∙ ap (λ (rest : List ℕ). info_kind_text kind.0.0 ++ rest) (third.0
          ∙ ap (λ (rest : List ℕ). number_text room.0.0 ++ rest) last.0 ∙ append-nil (number_text room.0.0))),
      rw (le-leb handle.0.0 4294967295 first.1, le-leb room.0.0 16384 third.1) refl,
    )

set_basic_back : (fields : List ℕ) (what : What) → set_basic_fields fields ≡ Ok what → ReadsVerb (codes "setbasic") what fields
unfolding set_basic_fields
set_basic_back fields what is =
    let handle = bind_ok (number_at most_id fields) _ what is in
    let creation = bind_ok (number_at most_time handle.0.1) _ what handle.2 in
    let access = bind_ok (number_at most_time creation.0.1) _ what creation.2 in
    let write = bind_ok (number_at most_time access.0.1) _ what access.2 in
    let change = bind_ok (number_at most_time write.0.1) _ what write.2 in
    let attributes = bind_ok (mask_at change.0.1) _ what change.2 in
    let last = ended_ok attributes.0.1 (Ask (SetBasic handle.0.0 creation.0.0 access.0.0 write.0.0 change.0.0 attributes.0.0)) what attributes.2 in
    let b1 = number_at-back most_id fields handle.0 handle.1 in
    let b2 = number_at-back most_time handle.0.1 creation.0 creation.1 in
    let b3 = number_at-back most_time creation.0.1 access.0 access.1 in
    let b4 = number_at-back most_time access.0.1 write.0 write.1 in
    let b5 = number_at-back most_time write.0.1 change.0 change.1 in
    let b6 = mask_at-back change.0.1 attributes.0 attributes.1 in
    subst (λ (w : What). ReadsVerb (codes "setbasic") w fields) last.1 (
      refl,
      b1.0
          ∙ ap (λ (rest : List ℕ). number_text handle.0.0 ++ rest) (b2.0
          ∙ ap (λ (rest : List ℕ). number_text creation.0.0 ++ rest) (b3.0
          ∙ ap (λ (rest : List ℕ). number_text access.0.0 ++ rest) (b4.0
          ∙ ap (λ (rest : List ℕ). number_text write.0.0 ++ rest) (b5.0
          ∙ ap (λ (rest : List ℕ). number_text change.0.0 ++ rest) (b6.0
          ∙ ap (λ (rest : List ℕ). mask_text attributes.0.0 ++ rest) last.0 ∙ append-nil (mask_text attributes.0.0)))))),
      rw (le-leb handle.0.0 4294967295 b1.1, le-leb creation.0.0 most_time b2.1, le-leb access.0.0 most_time b3.1, le-leb write.0.0 most_time b4.1, le-leb change.0.0 most_time b5.1, le-leb attributes.0.0 4294967295 b6.1) refl,
    )

query_dir_back : (fields : List ℕ) (what : What) → query_dir_fields fields ≡ Ok what → ReadsVerb (codes "querydir") what fields
unfolding query_dir_fields
query_dir_back fields what is =
    let handle = bind_ok (number_at most_id fields) _ what is in
    let kind = bind_ok (dir_kind_at handle.0.1) _ what handle.2 in
    let expression = bind_ok (text_at kind.0.1) _ what kind.2 in
    let restart = bind_ok (choice_at (codes "restart") (codes "go") expression.0.1) _ what expression.2 in
    let room = bind_ok (number_at 16384 restart.0.1) _ what restart.2 in
    let last = ended_ok room.0.1 (Ask (QueryDir handle.0.0 kind.0.0 expression.0.0 restart.0.0 room.0.0)) what room.2 in
    let b1 = number_at-back most_id fields handle.0 handle.1 in
    let b2 = dir_kind_at-back handle.0.1 kind.0 kind.1 in
    let b3 = text_at-back kind.0.1 expression.0 expression.1 in
    let b4 = choice_at-back (codes "restart") (codes "go") expression.0.1 restart.0 restart.1 in
    let b5 = number_at-back 16384 restart.0.1 room.0 room.1 in
    subst (λ (w : What). ReadsVerb (codes "querydir") w fields) last.1 (
      refl,
      (
        b3.0,
        b3.1.0,
        b1.0
            ∙ ap (λ (rest : List ℕ). number_text handle.0.0 ++ rest) (b2
            ∙ ap (λ (rest : List ℕ). dir_kind_text kind.0.0 ++ rest) (b3.2
            ∙ ap (λ (rest : List ℕ). 32 ∷ 61 ∷ (b3.0 ++ rest)) (b4
            ∙ ap (λ (rest : List ℕ). choice_text (codes "restart") (codes "go") restart.0.0 ++ rest) (b5.0
            ∙ ap (λ (rest : List ℕ). number_text room.0.0 ++ rest) last.0 ∙ append-nil (number_text room.0.0))))),
      ),
      rw (le-leb handle.0.0 4294967295 b1.1, b3.1.1, le-leb room.0.0 16384 b5.1) refl,
    )

notify_back : (fields : List ℕ) (what : What) → notify_fields fields ≡ Ok what → ReadsVerb (codes "notify") what fields
unfolding notify_fields
notify_back fields what is =
    let handle = bind_ok (number_at most_id fields) _ what is in
    let filter = bind_ok (mask_at handle.0.1) _ what handle.2 in
    let tree = bind_ok (choice_at (codes "tree") (codes "flat") filter.0.1) _ what filter.2 in
    let room = bind_ok (number_at 16384 tree.0.1) _ what tree.2 in
    let last = ended_ok room.0.1 (Ask (Notify handle.0.0 filter.0.0 tree.0.0 room.0.0)) what room.2 in
    let b1 = number_at-back most_id fields handle.0 handle.1 in
    let b2 = mask_at-back handle.0.1 filter.0 filter.1 in
    let b3 = choice_at-back (codes "tree") (codes "flat") filter.0.1 tree.0 tree.1 in
    let b4 = number_at-back 16384 tree.0.1 room.0 room.1 in
    subst (λ (w : What). ReadsVerb (codes "notify") w fields) last.1 (
      refl,
      b1.0
          ∙ ap (λ (rest : List ℕ). number_text handle.0.0 ++ rest) (b2.0
          ∙ ap (λ (rest : List ℕ). mask_text filter.0.0 ++ rest) (b3
          ∙ ap (λ (rest : List ℕ). choice_text (codes "tree") (codes "flat") tree.0.0 ++ rest) (b4.0
          ∙ ap (λ (rest : List ℕ). number_text room.0.0 ++ rest) last.0 ∙ append-nil (number_text room.0.0)))),
      rw (le-leb handle.0.0 4294967295 b1.1, le-leb filter.0.0 4294967295 b2.1, le-leb room.0.0 16384 b4.1) refl,
    )

set_reparse_back : (fields : List ℕ) (what : What) → set_reparse_fields fields ≡ Ok what → ReadsVerb (codes "setreparse") what fields
unfolding set_reparse_fields
set_reparse_back fields what is =
    let handle = bind_ok (number_at most_id fields) _ what is in
    let buffer = bind_ok (string_at handle.0.1) _ what handle.2 in
    let last = ended_ok buffer.0.1 (Ask (SetReparse handle.0.0 buffer.0.0)) what buffer.2 in
    let first = number_at-back most_id fields handle.0 handle.1 in
    let second = string_at-back handle.0.1 buffer.0 buffer.1 in
    subst (λ (w : What). ReadsVerb (codes "setreparse") w fields) last.1 (
      refl,
      first.0
          ∙ ap (λ (rest : List ℕ). number_text handle.0.0 ++ rest) (second.0
          ∙ ap (λ (rest : List ℕ). string_text buffer.0.0 ++ rest) last.0 ∙ append-nil (string_text buffer.0.0)),
      rw (le-leb handle.0.0 4294967295 first.1, second.1, le-leb (length buffer.0.0) 16384 second.2) refl,
    )

get_reparse_back : (fields : List ℕ) (what : What) → get_reparse_fields fields ≡ Ok what → ReadsVerb (codes "getreparse") what fields
unfolding get_reparse_fields
get_reparse_back fields what is =
    let handle = bind_ok (number_at most_id fields) _ what is in
    let room = bind_ok (number_at 16384 handle.0.1) _ what handle.2 in
    let last = ended_ok room.0.1 (Ask (GetReparse handle.0.0 room.0.0)) what room.2 in
    let first = number_at-back most_id fields handle.0 handle.1 in
    let second = number_at-back 16384 handle.0.1 room.0 room.1 in
    subst (λ (w : What). ReadsVerb (codes "getreparse") w fields) last.1 (
      refl,
      first.0
          ∙ ap (λ (rest : List ℕ). number_text handle.0.0 ++ rest) (second.0
          ∙ ap (λ (rest : List ℕ). number_text room.0.0 ++ rest) last.0 ∙ append-nil (number_text room.0.0)),
      rw (le-leb handle.0.0 4294967295 first.1, le-leb room.0.0 16384 second.1) refl,
    )

delete_reparse_back : (fields : List ℕ) (what : What) → delete_reparse_fields fields ≡ Ok what → ReadsVerb (codes "deletereparse") what fields
unfolding delete_reparse_fields
delete_reparse_back fields what is =
    let handle = bind_ok (number_at most_id fields) _ what is in
    let tag = bind_ok (mask_at handle.0.1) _ what handle.2 in
    let last = ended_ok tag.0.1 (Ask (DeleteReparse handle.0.0 tag.0.0)) what tag.2 in
    let first = number_at-back most_id fields handle.0 handle.1 in
    let second = mask_at-back handle.0.1 tag.0 tag.1 in
    subst (λ (w : What). ReadsVerb (codes "deletereparse") w fields) last.1 (
      refl,
      first.0
          ∙ ap (λ (rest : List ℕ). number_text handle.0.0 ++ rest) (second.0
          ∙ ap (λ (rest : List ℕ). mask_text tag.0.0 ++ rest) last.0 ∙ append-nil (mask_text tag.0.0)),
      rw (le-leb handle.0.0 4294967295 first.1, le-leb tag.0.0 4294967295 second.1) refl,
    )

set_quota_back : (fields : List ℕ) (what : What) → set_quota_fields fields ≡ Ok what → ReadsVerb (codes "setquota") what fields
unfolding set_quota_fields
set_quota_back fields what is =
    let sid = bind_ok (number_at most_id fields) _ what is in
    let limit = bind_ok (number_at most_limit sid.0.1) _ what sid.2 in
    let last = ended_ok limit.0.1 (Ask (SetQuota sid.0.0 limit.0.0)) what limit.2 in
    let first = number_at-back most_id fields sid.0 sid.1 in
    let second = number_at-back most_limit sid.0.1 limit.0 limit.1 in
    subst (λ (w : What). ReadsVerb (codes "setquota") w fields) last.1 (
      refl,
      first.0
          ∙ ap (λ (rest : List ℕ). number_text sid.0.0 ++ rest) (second.0
          ∙ ap (λ (rest : List ℕ). number_text limit.0.0 ++ rest) last.0 ∙ append-nil (number_text limit.0.0)),
      rw (le-leb sid.0.0 4294967295 first.1, le-leb limit.0.0 most_limit second.1) refl,
    )

query_quota_back : (fields : List ℕ) (what : What) → query_quota_fields fields ≡ Ok what → ReadsVerb (codes "queryquota") what fields
unfolding query_quota_fields
query_quota_back fields what is =
    let sid = bind_ok (number_at most_id fields) _ what is in
    let last = ended_ok sid.0.1 (Ask (QueryQuota sid.0.0)) what sid.2 in
    let first = number_at-back most_id fields sid.0 sid.1 in
    subst (λ (w : What). ReadsVerb (codes "queryquota") w fields) last.1
    (refl, first.0 ∙ ap (λ (rest : List ℕ). number_text sid.0.0 ++ rest) last.0 ∙ append-nil (number_text sid.0.0), le-leb sid.0.0 4294967295 first.1)

create_back : (fields : List ℕ) (what : What) → create_fields fields ≡ Ok what → ReadsVerb (codes "create") what fields
unfolding create_fields
create_back fields what is =
    let path = bind_ok (text_at fields) _ what is in
    let wanted = bind_ok (mask_at path.0.1) _ what path.2 in
    let share = bind_ok (mask_at wanted.0.1) _ what wanted.2 in
    let disposition = bind_ok (disposition_at share.0.1) _ what share.2 in
    let options = bind_ok (mask_at disposition.0.1) _ what disposition.2 in
    let attributes = bind_ok (mask_at options.0.1) _ what options.2 in
    let key = bind_ok (number_at most_key attributes.0.1) _ what attributes.2 in
    let last = ended_ok key.0.1 (Ask (Create path.0.0 wanted.0.0 share.0.0 disposition.0.0 options.0.0 attributes.0.0 key.0.0)) what key.2 in
    let b1 = text_at-back fields path.0 path.1 in
    let b2 = mask_at-back path.0.1 wanted.0 wanted.1 in
    let b3 = mask_at-back wanted.0.1 share.0 share.1 in
    let b4 = disposition_at-back share.0.1 disposition.0 disposition.1 in
    let b5 = mask_at-back disposition.0.1 options.0 options.1 in
    let b6 = mask_at-back options.0.1 attributes.0 attributes.1 in
    let b7 = number_at-back most_key attributes.0.1 key.0 key.1 in
    subst (λ (w : What). ReadsVerb (codes "create") w fields) last.1 (
      refl,
      (
        b1.0,
        b1.1.0,
        b1.2
            ∙ ap (λ (rest : List ℕ). 32 ∷ 61 ∷ (b1.0 ++ rest)) (b2.0
            ∙ ap (λ (rest : List ℕ). mask_text wanted.0.0 ++ rest) (b3.0
            ∙ ap (λ (rest : List ℕ). mask_text share.0.0 ++ rest) (b4
            ∙ ap (λ (rest : List ℕ). disposition_text disposition.0.0 ++ rest) (b5.0
            ∙ ap (λ (rest : List ℕ). mask_text options.0.0 ++ rest) (b6.0
            ∙ ap (λ (rest : List ℕ). mask_text attributes.0.0 ++ rest) (b7.0
            ∙ ap (λ (rest : List ℕ). number_text key.0.0 ++ rest) last.0 ∙ append-nil (number_text key.0.0))))))),
      ),
      rw (b1.1.1, le-leb wanted.0.0 4294967295 b2.1, le-leb share.0.0 4294967295 b3.1, le-leb options.0.0 4294967295 b5.1, le-leb attributes.0.0 4294967295 b6.1, le-leb key.0.0 most_key b7.1) refl,
    )

-- ---- the verbs

-- what a verb and its fields were read as, and how they write it
abbrev pub SaysVerb : List ℕ → List ℕ → What → Type 0
SaysVerb word fields what = (word ≡ verb what) × SpellsFields what fields × (can_be_spelled what ≡ true)

verb_case : (word name fields : List ℕ) (one other : Result What Kind) (what : What) → (if same word name then one else other) ≡ Ok what
    → (one ≡ Ok what → ReadsVerb name what fields) → (other ≡ Ok what → SaysVerb word fields what) → SaysVerb word fields what
verb_case word name fields one other what is here else_so =
    elim (if_or (same word name) one other what is) [
      | inl h ↦ let says = here h.1 in (same-is word name h.0 ∙ sym says.0, says.1, says.2)
      | inr h ↦ else_so h
    ]

pub what_of-back : (word fields : List ℕ) (what : What) → what_of word fields ≡ Ok what → SaysVerb word fields what
unfolding what_of
what_of-back word fields what is =
    verb_case word (codes "create") fields (create_fields fields) _ what is (create_back fields what) (λ is.
    verb_case word (codes "close") fields (close_fields fields) _ what is (close_back fields what) (λ is.
    verb_case word (codes "read") fields (read_fields fields) _ what is (read_back fields what) (λ is.
    verb_case word (codes "write") fields (write_fields fields) _ what is (write_back fields what) (λ is.
    verb_case word (codes "flush") fields (flush_fields fields) _ what is (flush_back fields what) (λ is.
    verb_case word (codes "setend") fields (set_end_fields fields) _ what is (set_end_back fields what) (λ is.
    verb_case word (codes "lock") fields (lock_fields fields) _ what is (lock_back fields what) (λ is.
    verb_case word (codes "unlock") fields (unlock_fields fields) _ what is (unlock_back fields what) (λ is.
    verb_case word (codes "oplock") fields (oplock_fields fields) _ what is (oplock_back fields what) (λ is.
    verb_case word (codes "ack") fields (ack_fields fields) _ what is (ack_back fields what) (λ is.
    verb_case word (codes "rename") fields (rename_fields fields) _ what is (rename_back fields what) (λ is.
    verb_case word (codes "link") fields (link_fields fields) _ what is (link_back fields what) (λ is.
    verb_case word (codes "setdelete") fields (set_disposition_fields fields) _ what is (set_disposition_back fields what) (λ is.
    verb_case word (codes "query") fields (query_info_fields fields) _ what is (query_info_back fields what) (λ is.
    verb_case word (codes "setbasic") fields (set_basic_fields fields) _ what is (set_basic_back fields what) (λ is.
    verb_case word (codes "setsecurity") fields (set_security_fields fields) _ what is (set_security_back fields what) (λ is.
    verb_case word (codes "querydir") fields (query_dir_fields fields) _ what is (query_dir_back fields what) (λ is.
    verb_case word (codes "notify") fields (notify_fields fields) _ what is (notify_back fields what) (λ is.
    verb_case word (codes "setreparse") fields (set_reparse_fields fields) _ what is (set_reparse_back fields what) (λ is.
    verb_case word (codes "getreparse") fields (get_reparse_fields fields) _ what is (get_reparse_back fields what) (λ is.
    verb_case word (codes "deletereparse") fields (delete_reparse_fields fields) _ what is (delete_reparse_back fields what) (λ is.
    verb_case word (codes "setquota") fields (set_quota_fields fields) _ what is (set_quota_back fields what) (λ is.
    verb_case word (codes "queryquota") fields (query_quota_fields fields) _ what is (query_quota_back fields what) (λ is.
    verb_case word (codes "tick") fields (tick_fields fields) _ what is (tick_back fields what) (λ is.
    verb_case word (codes "cancel") fields (cancel_fields fields) _ what is (cancel_back fields what) (λ is.
    verb_case word (codes "wait") fields (wait_fields fields) (Err BadSyntax) what is (wait_back fields what) (λ is. absurd (let e : Err BadSyntax ≡ Ok what = is in cc)))))))))))))))))))))))))))

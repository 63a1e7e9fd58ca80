-- Worked examples of the access check of a file that SID 7 owns, and of generic rights, each shown by computation.
use Rattle.std.proofs.Common.{◌≡◌, ℕ, List, [], ◌∷◌, Option, Some, None, true, false, refl}
use Rattle.std.specs.Prelude.{map}
use Rattle.fsa_types.specs.Access.{check, map_generic}
use Rattle.fsa_types.specs.declared.request.Ace.{Ace}

abbrev allow : ℕ → ℕ → Ace
allow sid mask = record { allow = true; sid = sid; mask = mask }

abbrev deny : ℕ → ℕ → Ace
deny sid mask = record { allow = false; sid = sid; mask = mask }

-- what a client with these SIDs is granted by a list of these entries
abbrev granted : List Ace → List ℕ → ℕ → Option ℕ
granted entries sids wanted = check (Some entries) 7 sids wanted

no_list : check None 7 (9 ∷ []) 0x1F01FF ≡ Some 0x1F01FF
no_list = refl

nothing_wanted : granted (deny 9 0x1F01FF ∷ []) (9 ∷ []) 0x0 ≡ Some 0x0
nothing_wanted = refl

empty_list : granted [] (9 ∷ []) 0x1 ≡ None
empty_list = refl

-- ---- an owner

owner_of_empty_list : granted [] (3 ∷ 7 ∷ []) 0x60000 ≡ Some 0x60000
owner_of_empty_list = refl

owner_wants_more : granted [] (7 ∷ []) 0x60001 ≡ None
owner_wants_more = refl

owner_keeps_own_rights : granted (deny 7 0x20000 ∷ []) (7 ∷ []) 0x20000 ≡ Some 0x20000
owner_keeps_own_rights = refl

owner_is_denied_others : granted (deny 7 0x10000 ∷ allow 7 0x1F01FF ∷ []) (7 ∷ []) 0x10000 ≡ None
owner_is_denied_others = refl

-- ---- the order of entries

allow_after_deny : granted (deny 9 0x2 ∷ allow 9 0x1F01FF ∷ []) (9 ∷ []) 0x2 ≡ None
allow_after_deny = refl

allow_after_deny_of_another_right : granted (deny 9 0x2 ∷ allow 9 0x1F01FF ∷ []) (9 ∷ []) 0x1 ≡ Some 0x1
allow_after_deny_of_another_right = refl

deny_after_allow : granted (allow 9 0x1F01FF ∷ deny 9 0x2 ∷ []) (9 ∷ []) 0x2 ≡ Some 0x2
deny_after_allow = refl

one_of_two_is_denied : granted (deny 9 0x2 ∷ allow 9 0x1F01FF ∷ []) (9 ∷ []) 0x3 ≡ None
one_of_two_is_denied = refl

what_is_denied_is_not_wanted : granted (deny 9 0x4 ∷ allow 9 0x3 ∷ []) (9 ∷ []) 0x3 ≡ Some 0x3
what_is_denied_is_not_wanted = refl

no_entry_names_it : granted (allow 9 0x1 ∷ []) (9 ∷ []) 0x3 ≡ None
no_entry_names_it = refl

two_entries_together : granted (allow 9 0x1 ∷ allow 9 0x2 ∷ []) (9 ∷ []) 0x3 ≡ Some 0x3
two_entries_together = refl

-- ---- SIDs

allows_another : granted (allow 8 0x1 ∷ []) (9 ∷ []) 0x1 ≡ None
allows_another = refl

denies_another : granted (deny 8 0x1 ∷ allow 9 0x1 ∷ []) (9 ∷ []) 0x1 ≡ Some 0x1
denies_another = refl

denies_the_second : granted (deny 8 0x1 ∷ allow 9 0x1 ∷ []) (9 ∷ 8 ∷ []) 0x1 ≡ None
denies_the_second = refl

two_sids_together : granted (allow 8 0x1 ∷ allow 9 0x2 ∷ []) (9 ∷ 8 ∷ []) 0x3 ≡ Some 0x3
two_sids_together = refl

-- ---- generic rights

generic_rights_are_mapped :
    map map_generic
    (0x0 ∷ 0x1F01FF ∷ 0x10000000 ∷ 0x20000000 ∷ 0x40000000 ∷ 0x80000000 ∷ 0x80010000 ∷ 0xC0000000 ∷ 0xA0000000 ∷ [])
    ≡ 0x0 ∷ 0x1F01FF ∷ 0x1F01FF ∷ 0x1200A0 ∷ 0x120116 ∷ 0x120089 ∷ 0x130089 ∷ 0x12019F ∷ 0x1200A9 ∷ []
generic_rights_are_mapped = refl

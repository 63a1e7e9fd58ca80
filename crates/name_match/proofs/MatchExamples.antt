-- Worked examples of expressions and names, and what `<` alone matches.
use Rattle.std.proofs.Common.{◌≡◌, ℕ, Bool, List, [], ◌∷◌, true, false, refl, replicate}
use Rattle.std.specs.Prelude.{codes, not, ◌&&◌, ◌||◌}
use Rattle.std.specs.List.{list_any}
use Rattle.fsa_types.specs.CaseTable.{ascii_pairs}
use Rattle.fsa_types.specs.Match.{matches, is_dot, is_empty, dos_star_matches, is_refused}

-- the empty expression
empty_of_empty : matches ascii_pairs [] [] ≡ true
empty_of_empty = refl

empty_of_unit : matches ascii_pairs [] (codes "a") ≡ false
empty_of_unit = refl

-- `*`
star_of_empty : matches ascii_pairs (codes "*") [] ≡ true
star_of_empty = refl

star_of_dots : matches ascii_pairs (codes "*") (codes "a.b.c") ≡ true
star_of_dots = refl

two_stars : matches ascii_pairs (codes "**") [] ≡ true
two_stars = refl

star_suffix : matches ascii_pairs (codes "*.txt") (codes "a.txt") ≡ true
star_suffix = refl

star_suffix_of_dots : matches ascii_pairs (codes "*.txt") (codes "A.B.TXT") ≡ true
star_suffix_of_dots = refl

star_suffix_alone : matches ascii_pairs (codes "*.txt") (codes ".txt") ≡ true
star_suffix_alone = refl

star_suffix_without_dot : matches ascii_pairs (codes "*.txt") (codes "txt") ≡ false
star_suffix_without_dot = refl

star_suffix_and_more : matches ascii_pairs (codes "*.txt") (codes "a.txt.") ≡ false
star_suffix_and_more = refl

star_dot_star : matches ascii_pairs (codes "*.*") (codes "a") ≡ false
star_dot_star = refl

star_dot_star_at_end : matches ascii_pairs (codes "*.*") (codes "a.") ≡ true
star_dot_star_at_end = refl

-- `<`: not the last `.` of the name
dos_star_suffix : matches ascii_pairs (codes "<.txt") (codes "x.y.txt") ≡ true
dos_star_suffix = refl

dos_star_suffix_alone : matches ascii_pairs (codes "<.txt") (codes ".txt") ≡ true
dos_star_suffix_alone = refl

dos_star_suffix_twice : matches ascii_pairs (codes "<.txt") (codes "x.txt.txt") ≡ true
dos_star_suffix_twice = refl

dos_star_suffix_before : matches ascii_pairs (codes "<.txt") (codes "x.txt.y") ≡ false
dos_star_suffix_before = refl

dos_star_behind_last_dot : matches ascii_pairs (codes "<b") (codes "a.b") ≡ false
dos_star_behind_last_dot = refl

dos_star_behind_first_dot : matches ascii_pairs (codes "<b.c") (codes "a.b.c") ≡ true
dos_star_behind_first_dot = refl

dos_star_to_last_dot : matches ascii_pairs (codes "<.") (codes "a.b.") ≡ true
dos_star_to_last_dot = refl

dos_star_star : matches ascii_pairs (codes "<*") (codes "a.b") ≡ true
dos_star_star = refl

two_dos_stars : matches ascii_pairs (codes "<<") (codes "a.b") ≡ false
two_dos_stars = refl

dos_stars_about_dot : matches ascii_pairs (codes "<.<") (codes "a.b.c") ≡ true
dos_stars_about_dot = refl

-- `?`: one unit, also a `.`, and never none
question_mark_of_dot : matches ascii_pairs (codes "?") (codes ".") ≡ true
question_mark_of_dot = refl

question_mark_of_empty : matches ascii_pairs (codes "?") [] ≡ false
question_mark_of_empty = refl

question_mark_at_end : matches ascii_pairs (codes "a?") (codes "a") ≡ false
question_mark_at_end = refl

question_mark_of_one : matches ascii_pairs (codes "a?") (codes "ab") ≡ true
question_mark_of_one = refl

question_mark_of_two : matches ascii_pairs (codes "a?") (codes "abc") ≡ false
question_mark_of_two = refl

-- `>`: nothing before a `.` and at the end, else one unit, which it doesn't leave to the rest
dos_qm_at_end : matches ascii_pairs (codes "a>>") (codes "a") ≡ true
dos_qm_at_end = refl

dos_qm_of_one : matches ascii_pairs (codes "a>>") (codes "ab") ≡ true
dos_qm_of_one = refl

dos_qm_of_more : matches ascii_pairs (codes "a>>") (codes "abcd") ≡ false
dos_qm_of_more = refl

dos_qm_before_dot : matches ascii_pairs (codes "a>>.b") (codes "a.b") ≡ true
dos_qm_before_dot = refl

dos_qm_and_dot : matches ascii_pairs (codes "a>.b") (codes "ab.b") ≡ true
dos_qm_and_dot = refl

dos_qm_of_dot : matches ascii_pairs (codes ">") (codes ".") ≡ false
dos_qm_of_dot = refl

dos_qm_for_dot : matches ascii_pairs (codes "a>b") (codes "a.b") ≡ false
dos_qm_for_dot = refl

dos_qm_takes_a_unit : matches ascii_pairs (codes ">a") (codes "a") ≡ false
dos_qm_takes_a_unit = refl

dos_qm_then_question_mark : matches ascii_pairs (codes "a>?b") (codes "a.b") ≡ true
dos_qm_then_question_mark = refl

-- `"`: a `.`, or nothing at the end alone
dos_dot_at_end : matches ascii_pairs (codes "a\"") (codes "a") ≡ true
dos_dot_at_end = refl

dos_dot_of_dot : matches ascii_pairs (codes "a\"") (codes "a.") ≡ true
dos_dot_of_dot = refl

dos_dot_of_two_dots : matches ascii_pairs (codes "a\"") (codes "a..") ≡ false
dos_dot_of_two_dots = refl

two_dos_dots : matches ascii_pairs (codes "a\"\"") (codes "a.") ≡ true
two_dos_dots = refl

dos_dot_between : matches ascii_pairs (codes "a\"b") (codes "a.b") ≡ true
dos_dot_between = refl

dos_dot_missing : matches ascii_pairs (codes "a\"b") (codes "ab") ≡ false
dos_dot_missing = refl

dos_star_dos_dot_star : matches ascii_pairs (codes "<\"*") (codes "a") ≡ true
dos_star_dos_dot_star = refl

dos_star_dos_dot_star_of_dots : matches ascii_pairs (codes "<\"*") (codes "a.b.c") ≡ true
dos_star_dos_dot_star_of_dots = refl

-- the case table: an accented letter, and one that it doesn't have
accented : matches ((0xe9, 0xc9) ∷ []) (0xe9 ∷ []) (0xc9 ∷ []) ≡ true
accented = refl

accented_behind_star : matches ((0xe9, 0xc9) ∷ []) (42 ∷ 0xc9 ∷ []) (120 ∷ 0xe9 ∷ []) ≡ true
accented_behind_star = refl

not_in_table : matches ((0xe9, 0xc9) ∷ []) (0xe8 ∷ []) (0xc8 ∷ []) ≡ false
not_in_table = refl

-- a unit that is upcased to `.` is the same as the literal `.`, and is no `.` for the signs
like_a_dot : matches ((97, 46) ∷ []) (codes ".") (codes "a") ≡ true
like_a_dot = refl

like_a_dot_for_dos_dot : matches ((97, 46) ∷ []) (codes "\"") (codes "a") ≡ false
like_a_dot_for_dos_dot = refl

like_a_dot_for_dos_qm : matches ((97, 46) ∷ []) (codes ">") (codes "a") ≡ true
like_a_dot_for_dos_qm = refl

like_a_dot_for_dos_star : matches ((97, 46) ∷ []) (codes "<") (codes "xax") ≡ true
like_a_dot_for_dos_star = refl

-- refusals: the length, then each bad unit; the signs and a space are let in
longest : is_refused (replicate 255 42) ≡ false
longest = refl

too_long : is_refused (replicate 256 42) ≡ true
too_long = refl

below_space : is_refused (97 ∷ 31 ∷ []) ≡ true
below_space = refl

bad_separator : is_refused (codes "a\\b") ≡ true
bad_separator = refl

bad_slash : is_refused (codes "a/b") ≡ true
bad_slash = refl

bad_colon : is_refused (codes "a:b") ≡ true
bad_colon = refl

bad_bar : is_refused (codes "a|b") ≡ true
bad_bar = refl

signs_and_space : is_refused (codes "*?<>\" .") ≡ false
signs_and_space = refl

-- `<` alone matches just the names without a `.`
dos_star_step : (dot any : Bool) → (not (dot && not any) && not any) ≡ not (dot || any)
dos_star_step true true = refl
dos_star_step true false = refl
dos_star_step false true = refl
dos_star_step false false = refl

pub dos_star_alone : (name : List ℕ) → dos_star_matches is_empty name ≡ not (list_any is_dot name)
dos_star_alone [] = refl
dos_star_alone (first ∷ others) = rw (dos_star_alone others) (dos_star_step (is_dot first) (list_any is_dot others))

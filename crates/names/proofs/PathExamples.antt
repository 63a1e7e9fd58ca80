-- Worked examples of paths, each shown by computation: their faults, components, rests and stream parts.
use Rattle.std.proofs.Common.{◌≡◌, [], ◌∷◌, ◌++◌, Some, None, refl, replicate, map}
use Rattle.std.specs.Prelude.{ℕ, List, codes, filter}
use Rattle.std.specs.List.{concat, enumerate_from}
use Rattle.fsa_types.specs.Paths.{Empty, TooLong, BadUnit, BadStream, is_bad_unit, component_fault, path_fault, components, rest_of, stream_part}

-- the root, and what is no path
root : path_fault (codes "\\") ≡ None
root = refl

root-components : components (codes "\\") ≡ []
root-components = refl

root-rest : rest_of (codes "\\") 0 ≡ []
root-rest = refl

nothing : path_fault [] ≡ Some Empty
nothing = refl

stream_alone : path_fault (codes ":s") ≡ Some Empty
stream_alone = refl

no_separator : path_fault (codes "a\\b") ≡ Some Empty
no_separator = refl

-- components without a unit
empty_component : path_fault (codes "\\a\\\\b") ≡ Some Empty
empty_component = refl

separator_last : path_fault (codes "\\a\\") ≡ Some Empty
separator_last = refl

-- long paths: the bound comes first, then the `\` at the start, then the components
at_most_32760_units : path_fault (replicate 32760 97) ≡ Some Empty
at_most_32760_units = refl

one_unit_more : path_fault (replicate 32761 97) ≡ Some TooLong
one_unit_more = refl

-- the deepest path has 16,380 components; this is one unit more
deeper : path_fault (concat (replicate 16380 (codes "\\a")) ++ codes "a") ≡ Some TooLong
deeper = refl

-- long components
longest : component_fault 1 (replicate 255 110) ≡ None
longest = refl

too_long : component_fault 1 (replicate 256 110) ≡ Some TooLong
too_long = refl

long_before_its_units : component_fault 1 (replicate 256 63) ≡ Some TooLong
long_before_its_units = refl

-- 253 units and a surrogate pair, and one unit more
component_of_255_units : path_fault (92 ∷ replicate 253 110 ++ 55357 ∷ 56832 ∷ []) ≡ None
component_of_255_units = refl

component_of_256_units : path_fault (92 ∷ replicate 254 110 ++ 55357 ∷ 56832 ∷ []) ≡ Some TooLong
component_of_256_units = refl

without_its_stream : path_fault (92 ∷ replicate 255 110 ++ codes ":s") ≡ None
without_its_stream = refl

-- the units below 128 that no component has
abbrev units_below : ℕ → List ℕ
units_below most = map (λ entry. entry.0) (enumerate_from {X = ℕ} 0 (replicate most 0))

bad_units : filter is_bad_unit (units_below 128) ≡ units_below 32 ++ codes "\"*/:<>?|"
bad_units = refl

-- units that no component has, and `.` and `..`, at their places; the leftmost component first
star : path_fault (codes "\\ab\\c*d") ≡ Some (BadUnit 5)
star = refl

control : path_fault (92 ∷ 97 ∷ 31 ∷ []) ≡ Some (BadUnit 2)
control = refl

space : path_fault (codes "\\a b") ≡ None
space = refl

dots_first : path_fault (codes "\\..\\a?") ≡ Some (BadUnit 1)
dots_first = refl

dot_last : path_fault (codes "\\a\\.:s") ≡ Some (BadUnit 3)
dot_last = refl

dot : path_fault (codes "\\.") ≡ Some (BadUnit 1)
dot = refl

dots : path_fault (codes "\\..") ≡ Some (BadUnit 1)
dots = refl

dots_between : path_fault (codes "\\ab\\..\\c") ≡ Some (BadUnit 4)
dots_between = refl

dots_of_a_stream : path_fault (codes "\\a:..") ≡ None
dots_of_a_stream = refl

three_dots : path_fault (codes "\\...") ≡ None
three_dots = refl

leftmost : path_fault (codes "\\a\\\\b?") ≡ Some Empty
leftmost = refl

-- stream parts
colon_before_last : path_fault (codes "\\a:s\\b") ≡ Some (BadUnit 2)
colon_before_last = refl

name_before_stream : path_fault (codes "\\a|:") ≡ Some (BadUnit 2)
name_before_stream = refl

no_name : path_fault (codes "\\:s") ≡ Some Empty
no_name = refl

no_name-default : path_fault (codes "\\::$DATA") ≡ Some Empty
no_name-default = refl

one_colon : path_fault (codes "\\a:") ≡ Some BadStream
one_colon = refl

two_colons : path_fault (codes "\\a::") ≡ Some BadStream
two_colons = refl

default_stream : stream_part (codes "\\a::$DATA") ≡ Some []
default_stream = refl

default_stream-sound : path_fault (codes "\\a::$DATA") ≡ None
default_stream-sound = refl

small_letters : path_fault (codes "\\a:b:$data") ≡ None
small_letters = refl

other_type : path_fault (codes "\\a:b:c") ≡ Some BadStream
other_type = refl

other_type-of_default : path_fault (codes "\\a::x") ≡ Some BadStream
other_type-of_default = refl

type_alone : stream_part (codes "\\a:$DATA") ≡ Some (codes "$DATA")
type_alone = refl

four_parts : path_fault (codes "\\a:b:$DATA:") ≡ Some BadStream
four_parts = refl

slash_in_stream : path_fault (codes "\\a:b/c") ≡ Some BadStream
slash_in_stream = refl

nothing_in_stream : path_fault (92 ∷ 97 ∷ 58 ∷ 98 ∷ 0 ∷ []) ≡ Some BadStream
nothing_in_stream = refl

star_in_stream : path_fault (codes "\\a:b*c") ≡ None
star_in_stream = refl

longest_stream : path_fault (codes "\\a:" ++ replicate 255 115) ≡ None
longest_stream = refl

too_long_stream : path_fault (codes "\\a:" ++ replicate 256 115) ≡ Some BadStream
too_long_stream = refl

-- what a path says
two_components : components (codes "\\a\\b:s:$DATA") ≡ codes "a" ∷ codes "b" ∷ []
two_components = refl

its_stream : stream_part (codes "\\a\\b:s:$DATA") ≡ Some (codes "s")
its_stream = refl

no_stream : stream_part (codes "\\a\\b") ≡ None
no_stream = refl

rest_from_first : rest_of (codes "\\a\\b\\c:s") 0 ≡ codes "a\\b\\c:s"
rest_from_first = refl

its_rest : rest_of (codes "\\a\\b\\c:s") 1 ≡ codes "b\\c:s"
its_rest = refl

no_rest : rest_of (codes "\\a\\b\\c:s") 3 ≡ []
no_rest = refl

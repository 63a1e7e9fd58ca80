-- The generated script, worked: the numbers that are drawn of 0, and the first lines of its script.
use Rattle.std.specs.Prelude.{◌≡◌, [], ◌∷◌, map, refl, codes}
use Rattle.fsa_types.specs.declared.request.Level.TheVariants.{R, RH, RW, RWH}
use Rattle.fsa_types.specs.declared.request.Request.TheVariants.{Close}
use Rattle.fsa_types.specs.declared.request.What.TheVariants.{Ask}
use Rattle.fsa_model.specs.Generator.{next_state, drawn, level_by, generated_call, generated_of, lines_of}
use Rattle.fsa_model.specs.Spelling.{line_text}

-- the state after 0 is the increment, and what is drawn of it; the greatest state wraps
pub after_zero : next_state 0 ≡ 1442695040888963407
after_zero = refl

pub drawn_of_zero : drawn (next_state 0) ≡ 167951807
drawn_of_zero = refl

pub greatest_state : next_state 18446744073709551615 ≡ 13525302890751722018
greatest_state = refl

-- each step of eight by each client, and the next open
pub first_lines :
    map line_text (lines_of (generated_of 40 0))
    ≡ codes "fsa 1"
    ∷ codes "client c0 10"
    ∷ codes "client c1 11"
    ∷ codes "client c2 12"
    ∷ codes "client c3 13"
    ∷ codes "c0 1 create =\\f63 0x3 0x7 open_if 0x0 0x0 0"
    ∷ codes "c1 1 create =\\f8 0x3 0x7 open_if 0x0 0x0 0"
    ∷ codes "c2 1 create =\\f17 0x3 0x7 open_if 0x0 0x0 0"
    ∷ codes "c3 1 create =\\f52 0x3 0x7 open_if 0x0 0x0 0"
    ∷ codes "c0 2 wait 1"
    ∷ codes "c1 2 wait 1"
    ∷ codes "c2 2 wait 1"
    ∷ codes "c3 2 wait 1"
    ∷ codes "c0 3 oplock 1 r"
    ∷ codes "c1 3 oplock 1 rwh"
    ∷ codes "c2 3 oplock 1 rwh"
    ∷ codes "c3 3 oplock 1 rw"
    ∷ codes "c0 4 write 1 54534 x06060606060606060606060606060606"
    ∷ codes "c1 4 write 1 34877 x3d3d3d3d3d3d3d3d3d3d3d3d3d3d3d3d"
    ∷ codes "c2 4 write 1 26932 x34343434343434343434343434343434"
    ∷ codes "c3 4 write 1 22814 x1e1e1e1e1e1e1e1e1e1e1e1e1e1e1e1e"
    ∷ codes "c0 5 read 1 21833 4096"
    ∷ codes "c1 5 read 1 6674 4096"
    ∷ codes "c2 5 read 1 16795 4096"
    ∷ codes "c3 5 read 1 22819 4096"
    ∷ codes "c0 6 lock 1 23342 64 sh now"
    ∷ codes "c1 6 lock 1 45877 64 ex now"
    ∷ codes "c2 6 lock 1 64719 64 ex now"
    ∷ codes "c3 6 lock 1 18794 64 sh now"
    ∷ codes "c0 7 query 1 standard 24"
    ∷ codes "c1 7 query 1 standard 24"
    ∷ codes "c2 7 query 1 standard 24"
    ∷ codes "c3 7 query 1 standard 24"
    ∷ codes "c0 8 close 1"
    ∷ codes "c1 8 close 1"
    ∷ codes "c2 8 close 1"
    ∷ codes "c3 8 close 1"
    ∷ codes "c0 9 create =\\f26 0x3 0x7 open_if 0x0 0x0 0"
    ∷ codes "c1 9 create =\\f36 0x3 0x7 open_if 0x0 0x0 0"
    ∷ codes "c2 9 create =\\f33 0x3 0x7 open_if 0x0 0x0 0"
    ∷ codes "c3 9 create =\\f59 0x3 0x7 open_if 0x0 0x0 0"
    ∷ codes "c0 10 wait 9"
    ∷ codes "c1 10 wait 9"
    ∷ codes "c2 10 wait 9"
    ∷ codes "c3 10 wait 9"
    ∷ []
first_lines = refl

-- the last call: the fourth client's 1,024th, which closes what its 1,017th opened
pub last_call : generated_call 4095 0 ≡ record { client = 3; number = 1024; what = Ask (Close 1017) }
last_call = refl

-- each level
pub levels : map level_by (0 ∷ 1 ∷ 2 ∷ 3 ∷ []) ≡ R ∷ RH ∷ RW ∷ RWH ∷ []
levels = refl

-- Worked examples, each shown by computation.
use Rattle.std.specs.Prelude.{◌≡◌, ℕ, true, false, List, [], ◌∷◌, Option, Some, None, map, codes, refl}
use Rattle.std.specs.Fmt.{digits}
use Rattle.fsa_types.specs.CaseTable.{ascii_pairs}
use Rattle.fsa_types.specs.Sharing.{clash}
use Rattle.fsa_types.specs.StreamBytes.{put, slice, cut}
use Rattle.fsa_types.specs.declared.oplock.Class.TheVariants.{NameChange, Change}
use Rattle.fsa_types.specs.declared.oplock.HandleSet.TheVariants.{Link as ByLink, Below}
use Rattle.fsa_types.specs.declared.request.Level.{Level}
use Rattle.fsa_types.specs.declared.request.Level.TheVariants.{Nil, R, RH, RW, RWH}
use Rattle.fsa_types.specs.declared.request.Disposition.TheVariants.{CreateNew}
use Rattle.fsa_types.specs.declared.request.Request.TheVariants.{Create, Close, Read, Write}
use Rattle.fsa_types.specs.declared.request.What.{What}
use Rattle.fsa_types.specs.declared.request.What.TheVariants.{Ask}
use Rattle.fsa_types.specs.declared.request.Call.{Call}
use Rattle.fsa_model.specs.Breaks.{chosen, awaited, with_breaks}
use Rattle.fsa_model.specs.Changes.{with_change_noted}
use Rattle.fsa_model.specs.Charge.{charge}
use Rattle.fsa_model.specs.Close.{try_close, close_at, with_closed, try_leave, with_client_gone}
use Rattle.fsa_model.specs.Open.{try_create, create_at, create_walked, create_named, create_missing, make_file}
use Rattle.fsa_model.specs.Read.{try_read, read_at, read_by, read_stream, read_range, read_unlocked, read_bytes}
use Rattle.fsa_model.specs.Setup.{Script}
use Rattle.fsa_model.specs.Schedule.{plain}
use Rattle.fsa_model.specs.Text.{text}
use Rattle.fsa_model.specs.Volume.{Volume, File, Link, Stream, Handle, Oplock, fresh, root}
use Rattle.fsa_model.specs.Write.{try_write, write_at, write_by, write_stream, write_at_place, write_range, write_unlocked, write_grown, write_bytes}

-- the call of client 0 with this number
abbrev call : ℕ → What → Call
call number what = record { client = 0; number = number; what = what }

-- client `a` with SID 7 and these lines
abbrev script : List Call → Script
script lines = record {
  setup = record { table = ascii_pairs; clients = record { name = codes "a"; sids = 7 ∷ [] } ∷ [] };
  lines = lines;
}

-- a file is created, written, read and closed
pub create_write_read_close :
    text (script (call 1 (Ask (Create (codes "\\A.txt") 3 0 CreateNew 0 0 0)) ∷ call 2 (Ask (Write 1 (Some 0) (codes "hello"))) ∷ call 3 (Ask (Read 1 0 5)) ∷ call 4 (Ask (Close 1)) ∷ []))
    (plain (script (call 1 (Ask (Create (codes "\\A.txt") 3 0 CreateNew 0 0 0)) ∷ call 2 (Ask (Write 1 (Some 0) (codes "hello"))) ∷ call 3 (Ask (Read 1 0 5)) ∷ call 4 (Ask (Close 1)) ∷ [])))
    ≡ codes "> a 1 create\na 1 SUCCESS created\n> a 2 write\na 2 SUCCESS 5\n> a 3 read\na 3 SUCCESS x68656c6c6f\n> a 4 close\na 4 SUCCESS\n> a 5 leave\na 5 SUCCESS\nend 5\n"
unfolding digits try_create create_at create_walked create_named create_missing make_file try_write write_at write_by write_stream write_at_place write_range write_unlocked write_grown write_bytes try_read read_at read_by read_stream read_range read_unlocked read_bytes try_close close_at with_closed try_leave with_client_gone
create_write_read_close = refl

-- a client without requests only leaves
pub no_requests : text (script []) (plain (script [])) ≡ codes "> a 1 leave\na 1 SUCCESS\nend 1\n"
unfolding digits try_leave with_client_gone
no_requests = refl

-- a write past the end fills the gap with zeros
pub gap : put (1 ∷ []) 3 (2 ∷ []) ≡ 1 ∷ 0 ∷ 0 ∷ 2 ∷ []
gap = refl

-- a write within the bytes keeps those around it
pub inside : put (1 ∷ 2 ∷ 3 ∷ []) 1 (9 ∷ []) ≡ 1 ∷ 9 ∷ 3 ∷ []
inside = refl

-- a read gives what there is up to the end
pub short_read : slice (1 ∷ 2 ∷ 3 ∷ []) 1 5 ≡ 2 ∷ 3 ∷ []
short_read = refl

-- a stream that is lengthened ends in zeros
pub lengthened : cut (1 ∷ []) 3 ≡ 1 ∷ 0 ∷ 0 ∷ []
lengthened = refl

-- a reader that shares nothing and a second reader clash
pub readers_clash : clash 1 0 1 7 ≡ true
readers_clash = refl

-- a directory `d` in the root, in it the files `x`, with the streams `` and `s`, and `y`
abbrev plain_file : File
plain_file = record root { directory = false; owner = 7 }

abbrev link_at : ℕ → List ℕ → ℕ → Link
link_at parent name file = record { parent = parent; name = name; file = file; deleted = false }

abbrev stream_at : ℕ → List ℕ → List ℕ → Stream
stream_at file name bytes = record { file = file; name = name; bytes = bytes; deleted = false }

abbrev handle_at : ℕ → ℕ → ℕ → Handle
handle_at number link stream = record {
  client = 0;
  number = number;
  link = link;
  stream = Some stream;
  access = 1;
  share = 7;
  key = 0;
  delete_on_close = false;
  enumeration = None;
}

abbrev oplock_at : ℕ → ℕ → Level → Oplock
oplock_at handle key level = record { handle = handle; key = key; level = level; target = None; number = 0; call = None }

abbrev nested : Volume
nested = record (fresh (record { table = ascii_pairs; clients = record { name = codes "a"; sids = 7 ∷ [] } ∷ [] })) {
  files = (1, root) ∷ (2, root) ∷ (3, plain_file) ∷ (4, plain_file) ∷ [];
  links = (1, link_at 1 (codes "d") 2) ∷ (2, link_at 2 (codes "x") 3) ∷ (3, link_at 2 (codes "y") 4) ∷ [];
  streams = (1, stream_at 4 [] (1 ∷ [])) ∷ (2, stream_at 3 (codes "s") []) ∷ (3, stream_at 3 [] (1 ∷ 2 ∷ [])) ∷ [];
  handles = (1, handle_at 1 3 1) ∷ (2, handle_at 2 2 2) ∷ (3, handle_at 3 2 3) ∷ (4, handle_at 4 2 3) ∷ [];
  oplocks = oplock_at 4 0 RWH ∷ oplock_at 1 5 RWH ∷ oplock_at 2 0 R ∷ oplock_at 3 0 RH ∷ [];
  last_file = 4;
  last_link = 3;
  last_stream = 3;
  last_handle = 4;
}

-- a change of the stream `s` is seen from `d` and from the root
pub noted_with_ancestors :
    (with_change_noted nested 2 6 0x200 (Some 2)).changes
    ≡ record { action = 6; bits = 0x200; seen_from = (2, codes "x:s") ∷ (1, codes "d\\x:s") ∷ [] } ∷ []
noted_with_ancestors = refl

-- of the root nothing is noted
pub noted_of_the_root : (with_change_noted nested 0 1 2 None).changes ≡ []
noted_of_the_root = refl

-- oplocks break by file, in a file the default stream first, and in a stream as they were opened
pub break_order : map (λ oplock. oplock.handle) (chosen nested (Below 1) None 0) ≡ 3 ∷ 4 ∷ 2 ∷ 1 ∷ []
break_order = refl

-- those of the acting handle, and those of its key, don't break
pub break_of_others : map (λ oplock. oplock.handle) (chosen nested (Below 1) (Some 4) 5) ≡ 3 ∷ 2 ∷ []
break_of_others = refl

-- those of the handles of another link don't either
pub break_by_link : map (λ oplock. oplock.handle) (chosen nested (ByLink 2) None 0) ≡ 3 ∷ 4 ∷ 2 ∷ []
break_by_link = refl

-- a change of names takes handle caching, is waited for, and numbers its breaks in that order
pub name_change_awaited : awaited nested (Below 1) NameChange None 0 ≡ 1 ∷ 2 ∷ 3 ∷ []
name_change_awaited = refl

pub name_change_targets :
    map {B = ℕ × Option Level} (λ oplock. (oplock.handle, oplock.target)) (with_breaks nested (Below 1) NameChange None 0).oplocks
    ≡ (4, Some RW) ∷ (1, Some RW) ∷ (2, None) ∷ (3, Some R) ∷ []
name_change_targets = refl

-- a change of bytes ends read caching without waiting, and waits where write caching is lost
pub change_awaited : awaited nested (Below 1) Change None 0 ≡ 2 ∷ 3 ∷ []
change_awaited = refl

pub change_leaves :
    map {B = ℕ × Option Level} (λ oplock. (oplock.handle, oplock.target)) (with_breaks nested (Below 1) Change None 0).oplocks
    ≡ (4, Some Nil) ∷ (1, Some Nil) ∷ (3, Some Nil) ∷ []
change_leaves = refl

-- an owner is charged whole clusters of all streams
pub charged : charge nested 7 ≡ 8192
charged = refl

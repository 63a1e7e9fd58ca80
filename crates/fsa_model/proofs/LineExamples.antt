-- Lines, worked by hand: what their bytes say, how they are written, and which are no lines; and a turn of
-- an open.
use Rattle.std.specs.Prelude.{◌≡◌, ℕ, true, false, List, [], ◌∷◌, map, replicate, Some, None, option_map, Result, Ok, Err, codes, refl}
use Rattle.fsa_types.specs.CaseTable.{ascii_pairs}
use Rattle.fsa_types.specs.declared.request.Disposition.{Disposition}
use Rattle.fsa_types.specs.declared.request.Disposition.TheVariants.{Supersede, OpenExisting, CreateNew, OpenIf, Overwrite, OverwriteIf}
use Rattle.fsa_types.specs.declared.request.DirKind.TheVariants.{Names, Dir, Full, IdFull}
use Rattle.fsa_types.specs.declared.request.InfoKind.TheVariants.{Basic, Standard, Internal, Tag, Streams}
use Rattle.fsa_types.specs.declared.request.Request.{Request}
use Rattle.fsa_types.specs.declared.request.Request.TheVariants.{Create, Read, Write, Flush, SetEnd, Lock, Unlock, QueryDir, Notify, QueryInfo, SetBasic, SetDisposition, Rename, Link, SetReparse, GetReparse, DeleteReparse, SetQuota, QueryQuota, Cancel}
use Rattle.fsa_types.specs.declared.request.What.TheVariants.{Ask, WaitFor}
use Rattle.fsa_types.specs.declared.reply.Action.TheVariants.{Created}
use Rattle.fsa_types.specs.declared.reply.Answer.TheVariants.{Ended}
use Rattle.fsa_types.specs.declared.reply.Body.TheVariants.{Nothing, Opened}
use Rattle.fsa_types.specs.declared.reply.EndOf.{EndOf}
use Rattle.fsa_types.specs.declared.status.Status.TheVariants.{Success, CannotDelete}
use Rattle.fsa_model.specs.Fault.{Kind, BadSyntax}
use Rattle.fsa_model.specs.ByteLines.{read_fields, start_at, write_fields, flush_fields, set_end_fields}
use Rattle.fsa_model.specs.LockLines.{lock_fields, unlock_fields}
use Rattle.fsa_model.specs.NameLines.{rename_fields, link_fields, set_disposition_fields}
use Rattle.fsa_model.specs.InformationLines.{info_kind_at, query_info_fields, set_basic_fields}
use Rattle.fsa_model.specs.ListingLines.{dir_kind_at, query_dir_fields, notify_fields}
use Rattle.fsa_model.specs.ControlLines.{set_reparse_fields, get_reparse_fields, delete_reparse_fields, set_quota_fields, query_quota_fields}
use Rattle.fsa_model.specs.WaitLines.{cancel_fields, wait_fields}
use Rattle.fsa_model.specs.Lines.{Line, RequestLine, request_of, line_of}
use Rattle.fsa_model.specs.Open.{try_create, create_at, create_walked, create_named, create_by_link, create_found, create_there, create_in_file, create_stream, create_on_stream, open_stream, open_directory, open_granted, overwrite_existing, open_existing, clashed, create_missing, make_file, make_directory, stopped}
use Rattle.fsa_model.specs.Outcome.{TurnOut}
use Rattle.fsa_model.specs.OpenLines.{disposition_at, create_fields}
use Rattle.fsa_model.specs.Requests.{what_of}
use Rattle.fsa_model.specs.Spelling.{is_line, line_text}
use Rattle.fsa_model.specs.Words.{field_at, number_at, mask_of, mask_at, text_of, text_at, choice_at, string_of, string_at}
use Rattle.fsa_model.specs.Turn.{turn}
use Rattle.fsa_model.specs.Volume.{File, Handle, Volume, fresh, root}

-- call 1 of client `a`: wanted, share, how, options, attributes and key
abbrev pub opens : List ℕ → ℕ → ℕ → Disposition → ℕ → ℕ → ℕ → Line
opens path wanted share disposition options attributes key =
    RequestLine (codes "a") 1 (Ask (Create path wanted share disposition options attributes key))

-- an open in each of the six ways
abbrev pub lines : List (List ℕ)
lines =
    codes "a 1 create =\\A 0x3 0x0 supersede 0x0 0x0 0"
    ∷ codes "a 1 create =\\d\\x:s:$DATA 0x10000000 0x7 open 0x200100 0x1 18446744073709551615"
    ∷ codes "a 1 create =\\ 0x1 0x7 create 0x1 0x31b7 5"
    ∷ codes "a 1 create = 0x0 0x8 open_if 0x41 0x80000000 10"
    ∷ codes "a 1 create =%0025%0020%D83D%DE00 0xffffffff 0xffffffff overwrite 0xffffffff 0xffffffff 7"
    ∷ codes "a 1 create =\\A 0x12019f 0x5 overwrite_if 0x60 0x20 0"
    ∷ []

abbrev pub said : List Line
said =
    opens (codes "\\A") 0x3 0x0 Supersede 0x0 0x0 0
    ∷ opens (codes "\\d\\x:s:$DATA") 0x10000000 0x7 OpenExisting 0x200100 0x1 18446744073709551615
    ∷ opens (codes "\\") 0x1 0x7 CreateNew 0x1 0x31B7 5
    ∷ opens [] 0x0 0x8 OpenIf 0x41 0x80000000 10
    ∷ opens (37 ∷ 32 ∷ 0xD83D ∷ 0xDE00 ∷ []) 0xFFFFFFFF 0xFFFFFFFF Overwrite 0xFFFFFFFF 0xFFFFFFFF 7
    ∷ opens (codes "\\A") 0x12019F 0x5 OverwriteIf 0x60 0x20 0
    ∷ []

pub opens_said : map line_of lines ≡ map {B = Result Line Kind} Ok said
unfolding line_of request_of what_of create_fields text_at text_of mask_at mask_of disposition_at number_at field_at
opens_said = refl

-- written, with small numbers
pub opens_written :
    map line_text (
    opens (codes "\\A") 0x3 0x0 Supersede 0x0 0x0 0
    ∷ opens (codes "\\d\\x:s") 0x20 0x7 OpenExisting 0x40 0x1 10
    ∷ opens (codes "\\") 0x1 0x7 CreateNew 0x1 0x10 5
    ∷ opens [] 0x0 0x8 OpenIf 0x41 0x0 9
    ∷ opens (37 ∷ 32 ∷ 0xD83D ∷ 127 ∷ []) 0xF 0x1F Overwrite 0xAB 0x3 7
    ∷ opens (codes "~!") 0x9 0x5 OverwriteIf 0x60 0x20 0
    ∷ [])
    ≡ codes "a 1 create =\\A 0x3 0x0 supersede 0x0 0x0 0"
    ∷ codes "a 1 create =\\d\\x:s 0x20 0x7 open 0x40 0x1 10"
    ∷ codes "a 1 create =\\ 0x1 0x7 create 0x1 0x10 5"
    ∷ codes "a 1 create = 0x0 0x8 open_if 0x41 0x0 9"
    ∷ codes "a 1 create =%0025%0020%D83D%007F 0xf 0x1f overwrite 0xab 0x3 7"
    ∷ codes "a 1 create =~! 0x9 0x5 overwrite_if 0x60 0x20 0"
    ∷ []
opens_written = refl

-- a key of 2^64 or with a leading zero; a mask with nine digits, with a leading zero, in upper case, or
-- without `0x`; a way that there isn't; a field too few or too many, a space at the end; a path without
-- `=`, with a lower-case or a short escape, or with a space
pub no_opens :
    map line_of (
    codes "a 1 create =\\A 0x3 0x0 open 0x0 0x0 18446744073709551616"
    ∷ codes "a 1 create =\\A 0x3 0x0 open 0x0 0x0 00"
    ∷ codes "a 1 create =\\A 0x100000000 0x0 open 0x0 0x0 0"
    ∷ codes "a 1 create =\\A 0x03 0x0 open 0x0 0x0 0"
    ∷ codes "a 1 create =\\A 0x3 0xA open 0x0 0x0 0"
    ∷ codes "a 1 create =\\A 3 0x0 open 0x0 0x0 0"
    ∷ codes "a 1 create =\\A 0x3 0x0 opened 0x0 0x0 0"
    ∷ codes "a 1 create =\\A 0x3 0x0 open 0x0 0x0"
    ∷ codes "a 1 create =\\A 0x3 0x0 open 0x0 0x0 0 0"
    ∷ codes "a 1 create =\\A 0x3 0x0 open 0x0 0x0 0 "
    ∷ codes "a 1 create \\A 0x3 0x0 open 0x0 0x0 0"
    ∷ codes "a 1 create =%d83d 0x3 0x0 open 0x0 0x0 0"
    ∷ codes "a 1 create =%041 0x3 0x0 open 0x0 0x0 0"
    ∷ codes "a 1 create =a b 0x3 0x0 open 0x0 0x0 0"
    ∷ [])
    ≡ Err BadSyntax
    ∷ Err BadSyntax
    ∷ Err BadSyntax
    ∷ Err BadSyntax
    ∷ Err BadSyntax
    ∷ Err BadSyntax
    ∷ Err BadSyntax
    ∷ Err BadSyntax
    ∷ Err BadSyntax
    ∷ Err BadSyntax
    ∷ Err BadSyntax
    ∷ Err BadSyntax
    ∷ Err BadSyntax
    ∷ Err BadSyntax
    ∷ []
unfolding line_of request_of what_of create_fields text_at text_of mask_at mask_of disposition_at number_at field_at
no_opens = refl

-- ---- bytes, locks and waits

-- call 1 of client `a`
abbrev pub asks : Request → Line
asks request = RequestLine (codes "a") 1 (Ask request)

-- the greatest numbers and the least; `end`; each word of a lock; an empty range, and one that passes the
-- last place
abbrev pub byte_lines : List (List ℕ)
byte_lines =
    codes "a 1 read 1 18446744073709551615 16384"
    ∷ codes "a 1 write 1 18446744073709551615 x00ff"
    ∷ codes "a 1 write 1 0 x"
    ∷ codes "a 1 write 1 end x0a"
    ∷ codes "a 1 flush 4294967295"
    ∷ codes "a 1 setend 0 0"
    ∷ codes "a 1 setend 1 18446744073709551615"
    ∷ codes "a 1 lock 1 0 10 ex now"
    ∷ codes "a 1 lock 2 15 0 sh wait"
    ∷ codes "a 1 lock 4294967295 18446744073709551615 18446744073709551615 ex wait"
    ∷ codes "a 1 lock 3 7 1 sh now"
    ∷ codes "a 1 unlock 1 0 10"
    ∷ codes "a 1 unlock 4294967295 18446744073709551615 18446744073709551615"
    ∷ codes "a 1 cancel 0"
    ∷ codes "a 1 cancel 4294967295"
    ∷ codes "a 1 wait 0"
    ∷ codes "a 1 wait 4294967295"
    ∷ []

pub bytes_said :
    map line_of byte_lines
    ≡ map {B = Result Line Kind} Ok (
    asks (Read 1 18446744073709551615 16384)
    ∷ asks (Write 1 (Some 18446744073709551615) (0 ∷ 255 ∷ []))
    ∷ asks (Write 1 (Some 0) [])
    ∷ asks (Write 1 None (10 ∷ []))
    ∷ asks (Flush 4294967295)
    ∷ asks (SetEnd 0 0)
    ∷ asks (SetEnd 1 18446744073709551615)
    ∷ asks (Lock 1 0 10 true false)
    ∷ asks (Lock 2 15 0 false true)
    ∷ asks (Lock 4294967295 18446744073709551615 18446744073709551615 true true)
    ∷ asks (Lock 3 7 1 false false)
    ∷ asks (Unlock 1 0 10)
    ∷ asks (Unlock 4294967295 18446744073709551615 18446744073709551615)
    ∷ asks (Cancel 0)
    ∷ asks (Cancel 4294967295)
    ∷ RequestLine (codes "a") 1 (WaitFor 0)
    ∷ RequestLine (codes "a") 1 (WaitFor 4294967295)
    ∷ [])
unfolding line_of request_of what_of read_fields write_fields start_at flush_fields set_end_fields lock_fields unlock_fields cancel_fields wait_fields choice_at string_at string_of number_at field_at
bytes_said = refl

-- written, with small numbers
pub bytes_written :
    map line_text (
    asks (Read 1 65536 4)
    ∷ asks (Write 12 (Some 0) (10 ∷ 255 ∷ []))
    ∷ asks (Write 1 None [])
    ∷ asks (Flush 10)
    ∷ asks (SetEnd 1 305)
    ∷ asks (Lock 1 0 10 true false)
    ∷ asks (Lock 2 15 0 false true)
    ∷ asks (Unlock 1 0 10)
    ∷ asks (Cancel 7)
    ∷ RequestLine (codes "a") 1 (WaitFor 21)
    ∷ [])
    ≡ codes "a 1 read 1 65536 4"
    ∷ codes "a 1 write 12 0 x0aff"
    ∷ codes "a 1 write 1 end x"
    ∷ codes "a 1 flush 10"
    ∷ codes "a 1 setend 1 305"
    ∷ codes "a 1 lock 1 0 10 ex now"
    ∷ codes "a 1 lock 2 15 0 sh wait"
    ∷ codes "a 1 unlock 1 0 10"
    ∷ codes "a 1 cancel 7"
    ∷ codes "a 1 wait 21"
    ∷ []
bytes_written = refl

-- a place, a length or a handle that is too great; a number with a leading zero; a field that is empty,
-- missing or too many, or whose word is another; a space at the end
abbrev pub bad_lines : List (List ℕ)
bad_lines =
    codes "a 1 read 1 18446744073709551616 0"
    ∷ codes "a 1 read 1 0 16385"
    ∷ codes "a 1 read 1 00 1"
    ∷ codes "a 1 read 1 0"
    ∷ codes "a 1 read 1 end 1"
    ∷ codes "a 1 write 1 18446744073709551616 x"
    ∷ codes "a 1 write 1 End x"
    ∷ codes "a 1 write 1 end"
    ∷ codes "a 1 write 1  x"
    ∷ codes "a 1 write 1 end x0"
    ∷ codes "a 1 write 1 end x00 0"
    ∷ codes "a 1 flush"
    ∷ codes "a 1 flush 4294967296"
    ∷ codes "a 1 flush 01"
    ∷ codes "a 1 flush 1 0"
    ∷ codes "a 1 setend 1"
    ∷ codes "a 1 setend 1 18446744073709551616"
    ∷ codes "a 1 setend 1 end"
    ∷ codes "a 1 setend 1 00"
    ∷ codes "a 1 setend 1 0 0"
    ∷ codes "a 1 lock 1 18446744073709551616 1 ex now"
    ∷ codes "a 1 lock 1 0 18446744073709551616 ex now"
    ∷ codes "a 1 lock 1 0  ex now"
    ∷ codes "a 1 lock 1 0 ex now"
    ∷ codes "a 1 lock 1 0 1 ex"
    ∷ codes "a 1 lock 1 0 1 now"
    ∷ codes "a 1 lock 1 0 1 now ex"
    ∷ codes "a 1 lock 1 0 1 EX now"
    ∷ codes "a 1 lock 1 0 1 exclusive now"
    ∷ codes "a 1 lock 1 0 1 ex later"
    ∷ codes "a 1 lock 1 01 1 ex now"
    ∷ codes "a 1 lock 1 0 1 ex now 0"
    ∷ codes "a 1 lock 1 0 1 ex now "
    ∷ codes "a 1 unlock 1 18446744073709551616 1"
    ∷ codes "a 1 unlock 1 0 18446744073709551616"
    ∷ codes "a 1 unlock 1 0"
    ∷ codes "a 1 unlock 1 0 "
    ∷ codes "a 1 unlock 1 0 01"
    ∷ codes "a 1 unlock 1 0 1 ex"
    ∷ codes "a 1 cancel"
    ∷ codes "a 1 cancel 4294967296"
    ∷ codes "a 1 cancel 01"
    ∷ codes "a 1 cancel 1 2"
    ∷ codes "a 1 wait"
    ∷ codes "a 1 wait 4294967296"
    ∷ codes "a 1 wait 00"
    ∷ codes "a 1 wait 1 2"
    ∷ codes "a 1 wait x"
    ∷ []

pub no_byte_lines : map line_of bad_lines ≡ map {B = Result Line Kind} (λ line. Err BadSyntax) bad_lines
unfolding line_of request_of what_of read_fields write_fields start_at flush_fields set_end_fields lock_fields unlock_fields cancel_fields wait_fields choice_at string_at string_of number_at field_at
no_byte_lines = refl

-- what no line can say
pub unsaid :
    map (λ request. is_line (asks request)) (
    Read 1 18446744073709551616 0
    ∷ Read 1 0 16385
    ∷ Write 1 (Some 18446744073709551616) []
    ∷ Write 4294967296 None []
    ∷ Flush 4294967296
    ∷ SetEnd 1 18446744073709551616
    ∷ Lock 1 18446744073709551616 0 true true
    ∷ Unlock 1 0 18446744073709551616
    ∷ Cancel 4294967296
    ∷ [])
    ≡ false
    ∷ false
    ∷ false
    ∷ false
    ∷ false
    ∷ false
    ∷ false
    ∷ false
    ∷ false
    ∷ []
unsaid = refl

-- ---- names and marks

-- the least handle and the greatest; the root's path, none, and one with an escape; each word
pub names_said :
    map line_of (
    codes "a 1 rename 0 =\\x keep"
    ∷ codes "a 1 rename 4294967295 =\\d\\x:s replace"
    ∷ codes "a 1 rename 1 = keep"
    ∷ codes "a 1 link 2 =\\ replace"
    ∷ codes "a 1 link 4294967295 =\\%0041%D83D%0020 keep"
    ∷ codes "a 1 setdelete 0 yes"
    ∷ codes "a 1 setdelete 4294967295 no"
    ∷ [])
    ≡ map {B = Result Line Kind} Ok (
    asks (Rename 0 (codes "\\x") false)
    ∷ asks (Rename 4294967295 (codes "\\d\\x:s") true)
    ∷ asks (Rename 1 [] false)
    ∷ asks (Link 2 (codes "\\") true)
    ∷ asks (Link 4294967295 (92 ∷ 65 ∷ 0xD83D ∷ 32 ∷ []) false)
    ∷ asks (SetDisposition 0 true)
    ∷ asks (SetDisposition 4294967295 false)
    ∷ [])
unfolding line_of request_of what_of rename_fields link_fields set_disposition_fields choice_at text_at text_of number_at field_at
names_said = refl

-- written, with small numbers
pub names_written :
    map line_text (
    asks (Rename 10 (codes "\\x") false)
    ∷ asks (Rename 1 (37 ∷ []) true)
    ∷ asks (Link 2 [] true)
    ∷ asks (Link 21 (codes "\\d\\x:s") false)
    ∷ asks (SetDisposition 3 true)
    ∷ asks (SetDisposition 12 false)
    ∷ [])
    ≡ codes "a 1 rename 10 =\\x keep"
    ∷ codes "a 1 rename 1 =%0025 replace"
    ∷ codes "a 1 link 2 = replace"
    ∷ codes "a 1 link 21 =\\d\\x:s keep"
    ∷ codes "a 1 setdelete 3 yes"
    ∷ codes "a 1 setdelete 12 no"
    ∷ []
names_written = refl

-- a handle that is too great or has a leading zero; a path without `=`, with a lower-case or a short escape, or with
-- a space; a field that is missing, in another's place or too many, or whose word is another; a space at the end
abbrev pub bad_name_lines : List (List ℕ)
bad_name_lines =
    codes "a 1 rename 4294967296 =\\x keep"
    ∷ codes "a 1 rename 01 =\\x keep"
    ∷ codes "a 1 rename 1 \\x keep"
    ∷ codes "a 1 rename 1 =%d83d keep"
    ∷ codes "a 1 rename 1 =%041 keep"
    ∷ codes "a 1 rename 1 =\\a b keep"
    ∷ codes "a 1 rename 1 =\\x"
    ∷ codes "a 1 rename 1 keep"
    ∷ codes "a 1 rename 1 keep =\\x"
    ∷ codes "a 1 rename =\\x keep"
    ∷ codes "a 1 rename 1 =\\x Keep"
    ∷ codes "a 1 rename 1 =\\x yes"
    ∷ codes "a 1 rename 1 =\\x keep replace"
    ∷ codes "a 1 rename 1 =\\x keep "
    ∷ codes "a 1 link 4294967296 =\\x keep"
    ∷ codes "a 1 link 00 =\\x keep"
    ∷ codes "a 1 link 1 \\x keep"
    ∷ codes "a 1 link 1 =% keep"
    ∷ codes "a 1 link 1 =\\x"
    ∷ codes "a 1 link 1 =\\x overwrite"
    ∷ codes "a 1 link 1 =\\x replace 1"
    ∷ codes "a 1 link 1  =\\x replace"
    ∷ codes "a 1 setdelete 4294967296 yes"
    ∷ codes "a 1 setdelete 01 yes"
    ∷ codes "a 1 setdelete 1"
    ∷ codes "a 1 setdelete yes"
    ∷ codes "a 1 setdelete 1 true"
    ∷ codes "a 1 setdelete 1 Yes"
    ∷ codes "a 1 setdelete 1 yes no"
    ∷ codes "a 1 setdelete 1 no "
    ∷ []

pub no_name_lines : map line_of bad_name_lines ≡ map {B = Result Line Kind} (λ line. Err BadSyntax) bad_name_lines
unfolding line_of request_of what_of rename_fields link_fields set_disposition_fields choice_at text_at text_of number_at field_at
no_name_lines = refl

-- what no line can say
pub unsaid_names :
    map (λ request. is_line (asks request)) (
    Rename 4294967296 [] false
    ∷ Rename 1 (65536 ∷ []) true
    ∷ Link 4294967296 [] false
    ∷ Link 1 (92 ∷ 65536 ∷ []) true
    ∷ SetDisposition 4294967296 true
    ∷ [])
    ≡ false ∷ false ∷ false ∷ false ∷ false ∷ []
unsaid_names = refl

-- ---- listings, information, reparse points and quotas

-- each layout and each kind; the least numbers and the greatest; no expression, and one with signs and an escape
pub queries_said :
    map line_of (
    codes "a 1 querydir 1 names =* restart 100"
    ∷ codes "a 1 querydir 0 dir = go 0"
    ∷ codes "a 1 querydir 4294967295 full =<.%0022%D83D>? go 16384"
    ∷ codes "a 1 querydir 2 idfull =*.txt restart 4096"
    ∷ codes "a 1 query 0 basic 0"
    ∷ codes "a 1 query 4294967295 standard 16384"
    ∷ codes "a 1 query 1 internal 8"
    ∷ codes "a 1 query 1 tag 8"
    ∷ codes "a 1 query 1 stream 24"
    ∷ codes "a 1 setbasic 0 0 0 0 0 0x0"
    ∷ codes "a 1 setbasic 4294967295 1 18446744073709551614 9223372036854775808 18446744073709551615 0xffffffff"
    ∷ codes "a 1 setreparse 0 x"
    ∷ codes "a 1 setreparse 4294967295 x0c0000a00200000000ff"
    ∷ codes "a 1 getreparse 1 0"
    ∷ codes "a 1 getreparse 4294967295 16384"
    ∷ codes "a 1 deletereparse 1 0x0"
    ∷ codes "a 1 deletereparse 4294967295 0xa000000c"
    ∷ codes "a 1 setquota 0 0"
    ∷ codes "a 1 setquota 4294967295 18446744073709551615"
    ∷ codes "a 1 queryquota 0"
    ∷ codes "a 1 queryquota 4294967295"
    ∷ codes "a 1 notify 0 0x0 flat 0"
    ∷ codes "a 1 notify 4294967295 0xffffffff tree 16384"
    ∷ [])
    ≡ map {B = Result Line Kind} Ok (
    asks (QueryDir 1 Names (42 ∷ []) true 100)
    ∷ asks (QueryDir 0 Dir [] false 0)
    ∷ asks (QueryDir 4294967295 Full (60 ∷ 46 ∷ 34 ∷ 0xD83D ∷ 62 ∷ 63 ∷ []) false 16384)
    ∷ asks (QueryDir 2 IdFull (codes "*.txt") true 4096)
    ∷ asks (QueryInfo 0 Basic 0)
    ∷ asks (QueryInfo 4294967295 Standard 16384)
    ∷ asks (QueryInfo 1 Internal 8)
    ∷ asks (QueryInfo 1 Tag 8)
    ∷ asks (QueryInfo 1 Streams 24)
    ∷ asks (SetBasic 0 0 0 0 0 0)
    ∷ asks (SetBasic 4294967295 1 18446744073709551614 9223372036854775808 18446744073709551615 0xFFFFFFFF)
    ∷ asks (SetReparse 0 [])
    ∷ asks (SetReparse 4294967295 (12 ∷ 0 ∷ 0 ∷ 160 ∷ 2 ∷ 0 ∷ 0 ∷ 0 ∷ 0 ∷ 255 ∷ []))
    ∷ asks (GetReparse 1 0)
    ∷ asks (GetReparse 4294967295 16384)
    ∷ asks (DeleteReparse 1 0)
    ∷ asks (DeleteReparse 4294967295 0xA000000C)
    ∷ asks (SetQuota 0 0)
    ∷ asks (SetQuota 4294967295 18446744073709551615)
    ∷ asks (QueryQuota 0)
    ∷ asks (QueryQuota 4294967295)
    ∷ asks (Notify 0 0 false 0)
    ∷ asks (Notify 4294967295 0xFFFFFFFF true 16384)
    ∷ [])
unfolding line_of request_of what_of query_info_fields info_kind_at set_basic_fields query_dir_fields dir_kind_at notify_fields set_reparse_fields get_reparse_fields delete_reparse_fields set_quota_fields query_quota_fields choice_at text_at text_of string_at string_of mask_at mask_of number_at field_at
queries_said = refl

-- written, with small numbers
pub queries_written :
    map line_text (
    asks (QueryDir 1 Names (42 ∷ []) true 10)
    ∷ asks (QueryDir 12 Dir [] false 0)
    ∷ asks (QueryDir 3 Full (37 ∷ 34 ∷ 32 ∷ []) false 8)
    ∷ asks (QueryDir 2 IdFull (codes "<.txt") true 4096)
    ∷ asks (QueryInfo 1 Basic 40)
    ∷ asks (QueryInfo 2 Standard 24)
    ∷ asks (QueryInfo 3 Internal 8)
    ∷ asks (QueryInfo 4 Tag 8)
    ∷ asks (QueryInfo 5 Streams 0)
    ∷ asks (SetBasic 1 2 3 4 5 0x21)
    ∷ asks (SetReparse 1 (12 ∷ 255 ∷ []))
    ∷ asks (GetReparse 1 16)
    ∷ asks (DeleteReparse 1 0xC)
    ∷ asks (SetQuota 7 100)
    ∷ asks (QueryQuota 7)
    ∷ asks (Notify 1 0xFFF true 100)
    ∷ asks (Notify 2 0x10 false 0)
    ∷ [])
    ≡ codes "a 1 querydir 1 names =* restart 10"
    ∷ codes "a 1 querydir 12 dir = go 0"
    ∷ codes "a 1 querydir 3 full =%0025\"%0020 go 8"
    ∷ codes "a 1 querydir 2 idfull =<.txt restart 4096"
    ∷ codes "a 1 query 1 basic 40"
    ∷ codes "a 1 query 2 standard 24"
    ∷ codes "a 1 query 3 internal 8"
    ∷ codes "a 1 query 4 tag 8"
    ∷ codes "a 1 query 5 stream 0"
    ∷ codes "a 1 setbasic 1 2 3 4 5 0x21"
    ∷ codes "a 1 setreparse 1 x0cff"
    ∷ codes "a 1 getreparse 1 16"
    ∷ codes "a 1 deletereparse 1 0xc"
    ∷ codes "a 1 setquota 7 100"
    ∷ codes "a 1 queryquota 7"
    ∷ codes "a 1 notify 1 0xfff tree 100"
    ∷ codes "a 1 notify 2 0x10 flat 0"
    ∷ []
queries_written = refl

-- a handle, a SID, a room, a time, a limit or a mask that is too great or has a leading zero; another word; fields
-- that are missing, in another's place or too many; a space at the end
abbrev pub bad_queries : List (List ℕ)
bad_queries =
    codes "a 1 querydir 4294967296 names =* go 100"
    ∷ codes "a 1 querydir 1 names =* go 16385"
    ∷ codes "a 1 querydir 1 names =* go 0100"
    ∷ codes "a 1 querydir 1 name =* go 100"
    ∷ codes "a 1 querydir 1 idFull =* go 100"
    ∷ codes "a 1 querydir 1 both =* go 100"
    ∷ codes "a 1 querydir 1 names * go 100"
    ∷ codes "a 1 querydir 1 names =%002a go 100"
    ∷ codes "a 1 querydir 1 names =a b go 100"
    ∷ codes "a 1 querydir 1 names =* Go 100"
    ∷ codes "a 1 querydir 1 names =* begin 100"
    ∷ codes "a 1 querydir 1 names go =* 100"
    ∷ codes "a 1 querydir 1 =* names go 100"
    ∷ codes "a 1 querydir 1 names =* 100 go"
    ∷ codes "a 1 querydir 1 names =* 100"
    ∷ codes "a 1 querydir 1 names =* go"
    ∷ codes "a 1 querydir 1 names go 100"
    ∷ codes "a 1 querydir 1 names =* go 100 "
    ∷ codes "a 1 querydir 1 names =* go 100 0"
    ∷ codes "a 1 query 4294967296 basic 40"
    ∷ codes "a 1 query 1 basic 16385"
    ∷ codes "a 1 query 1 Basic 40"
    ∷ codes "a 1 query 1 streams 40"
    ∷ codes "a 1 query 1 names 40"
    ∷ codes "a 1 query 1 40 basic"
    ∷ codes "a 1 query 1 basic"
    ∷ codes "a 1 query 1 40"
    ∷ codes "a 1 query 1 basic 40 "
    ∷ codes "a 1 query 1 basic 40 0"
    ∷ codes "a 1 setbasic 4294967296 0 0 0 0 0x0"
    ∷ codes "a 1 setbasic 1 18446744073709551616 0 0 0 0x0"
    ∷ codes "a 1 setbasic 1 0 18446744073709551616 0 0 0x0"
    ∷ codes "a 1 setbasic 1 0 0 18446744073709551616 0 0x0"
    ∷ codes "a 1 setbasic 1 0 0 0 18446744073709551616 0x0"
    ∷ codes "a 1 setbasic 1 0 0 0 0 0x100000000"
    ∷ codes "a 1 setbasic 1 0 0 0 0 0"
    ∷ codes "a 1 setbasic 1 0 0 0 0x0 0"
    ∷ codes "a 1 setbasic 1 -1 0 0 0 0x0"
    ∷ codes "a 1 setbasic 1 0 0 0 0x0"
    ∷ codes "a 1 setbasic 1 0 0 0 0 0 0x0"
    ∷ codes "a 1 setbasic 1 0 0 0 0 0x0 "
    ∷ codes "a 1 setreparse 4294967296 x"
    ∷ codes "a 1 setreparse 1 0c"
    ∷ codes "a 1 setreparse 1 x0"
    ∷ codes "a 1 setreparse 1 x0C"
    ∷ codes "a 1 setreparse 1"
    ∷ codes "a 1 setreparse 1 x0c x"
    ∷ codes "a 1 getreparse 4294967296 8"
    ∷ codes "a 1 getreparse 1 16385"
    ∷ codes "a 1 getreparse 1"
    ∷ codes "a 1 getreparse 1 8 8"
    ∷ codes "a 1 deletereparse 4294967296 0xc"
    ∷ codes "a 1 deletereparse 1 12"
    ∷ codes "a 1 deletereparse 1 0x1a000000c"
    ∷ codes "a 1 deletereparse 1"
    ∷ codes "a 1 deletereparse 1 0xc 0"
    ∷ codes "a 1 setquota 4294967296 0"
    ∷ codes "a 1 setquota 7 18446744073709551616"
    ∷ codes "a 1 setquota 7 none"
    ∷ codes "a 1 setquota 7"
    ∷ codes "a 1 setquota 7 0 0"
    ∷ codes "a 1 queryquota 4294967296"
    ∷ codes "a 1 queryquota 07"
    ∷ codes "a 1 queryquota"
    ∷ codes "a 1 queryquota 7 0"
    ∷ codes "a 1 notify 4294967296 0x1 flat 100"
    ∷ codes "a 1 notify 1 1 flat 100"
    ∷ codes "a 1 notify 1 0x100000000 flat 100"
    ∷ codes "a 1 notify 1 0x1 deep 100"
    ∷ codes "a 1 notify 1 0x1 Tree 100"
    ∷ codes "a 1 notify 1 0x1 flat 16385"
    ∷ codes "a 1 notify 1 flat 0x1 100"
    ∷ codes "a 1 notify 1 0x1 flat"
    ∷ codes "a 1 notify 1 0x1 100"
    ∷ codes "a 1 notify 1 0x1 flat 100 "
    ∷ codes "a 1 notify 1 0x1 flat 100 0"
    ∷ []

pub no_queries : map line_of bad_queries ≡ map {B = Result Line Kind} (λ line. Err BadSyntax) bad_queries
unfolding line_of request_of what_of query_info_fields info_kind_at set_basic_fields query_dir_fields dir_kind_at notify_fields set_reparse_fields get_reparse_fields delete_reparse_fields set_quota_fields query_quota_fields choice_at text_at text_of string_at string_of mask_at mask_of number_at field_at
no_queries = refl

-- what no line can say
pub unsaid_queries :
    map (λ request. is_line (asks request)) (
    QueryDir 4294967296 Names [] true 0
    ∷ QueryDir 1 Names (65536 ∷ []) true 0
    ∷ QueryDir 1 Names [] true 16385
    ∷ QueryInfo 4294967296 Basic 0
    ∷ QueryInfo 1 Basic 16385
    ∷ SetBasic 4294967296 0 0 0 0 0
    ∷ SetBasic 1 18446744073709551616 0 0 0 0
    ∷ SetBasic 1 0 18446744073709551616 0 0 0
    ∷ SetBasic 1 0 0 18446744073709551616 0 0
    ∷ SetBasic 1 0 0 0 18446744073709551616 0
    ∷ SetBasic 1 0 0 0 0 0x100000000
    ∷ SetReparse 4294967296 []
    ∷ SetReparse 1 (256 ∷ [])
    ∷ GetReparse 4294967296 0
    ∷ GetReparse 1 16385
    ∷ DeleteReparse 4294967296 0
    ∷ DeleteReparse 1 0x100000000
    ∷ SetQuota 4294967296 0
    ∷ SetQuota 1 18446744073709551616
    ∷ QueryQuota 4294967296
    ∷ Notify 4294967296 1 true 0
    ∷ Notify 1 0x100000000 true 0
    ∷ Notify 1 1 true 16385
    ∷ [])
    ≡ replicate 23 false
unsaid_queries = refl

-- ---- a turn of an open

-- each field comes to its place; READONLY with DELETE_ON_CLOSE makes nothing
abbrev pub begun : Volume
begun = record (fresh (record { table = ascii_pairs; clients = record { name = codes "a"; sids = 7 ∷ [] } ∷ record { name = codes "b"; sids = 9 ∷ [] } ∷ [] })) { clock = 6 }

pub turn_of_a_refused_open :
    option_map {U = TurnOut × List (ℕ × File) × List (ℕ × Handle) × List EndOf} (λ turned. (turned.out, turned.volume.files, turned.volume.handles, turned.volume.ended))
    (turn begun (record { client = 1; number = 3; what = Ask (Create (codes "\\n:s") 0x110001 0x6 OpenIf 0x1140 0x1 12) }) [])
    ≡ Some (
      record { answer = Ended (record { status = CannotDelete; body = Nothing }); ended = []; starved = [] },
      (1, root) ∷ [],
      [],
      record { client = 1; number = 3; reply = record { status = CannotDelete; body = Nothing } } ∷ [],
    )
unfolding try_create create_at create_walked create_named create_by_link create_found create_there create_in_file create_stream create_on_stream open_stream open_directory open_granted overwrite_existing open_existing clashed create_missing make_file make_directory stopped
turn_of_a_refused_open = refl

pub turn_of_an_open :
    option_map {U = TurnOut × List (ℕ × File) × List (ℕ × Handle) × List EndOf} (λ turned. (turned.out, turned.volume.files, turned.volume.handles, turned.volume.ended))
    (turn begun (record { client = 1; number = 3; what = Ask (Create (codes "\\n:s") 0x110001 0x6 OpenIf 0x1140 0x2 12) }) [])
    ≡ Some (
      record { answer = Ended (record { status = Success; body = Opened Created }); ended = []; starved = [] },
      (1, root)
          ∷ (2, record { directory = false; attributes = 0x22; creation = 6; access = 6; write = 6; change = 6; owner = 9; dacl = None; point = None })
          ∷ [],
      (
        1,
        record {
          client = 1;
          number = 3;
          link = 1;
          stream = Some 2;
          access = 0x110001;
          share = 0x6;
          key = 12;
          delete_on_close = true;
          enumeration = None;
        },
      )
          ∷ [],
      record { client = 1; number = 3; reply = record { status = Success; body = Opened Created } } ∷ [],
    )
unfolding try_create create_at create_walked create_named create_by_link create_found create_there create_in_file create_stream create_on_stream open_stream open_directory open_granted overwrite_existing open_existing clashed create_missing make_file make_directory stopped
turn_of_an_open = refl

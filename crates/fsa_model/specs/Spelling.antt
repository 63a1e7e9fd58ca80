-- The text of a line: how a script writes what its lines say.
use Rattle.std.specs.Prelude.{ℕ, ◌&&◌, true, false, nat_le, Bool, List, [], ◌∷◌, ◌++◌, length, codes}
use Rattle.std.specs.List.{flat_map, list_all}
use Rattle.fsa_types.specs.declared.request.What.{What}
use Rattle.fsa_types.specs.declared.request.What.TheVariants.{Ask, Tick, WaitFor, Leave}
use Rattle.fsa_types.specs.declared.request.Request.TheVariants.{Oplock, Ack}
use Rattle.fsa_types.specs.declared.request.Request.TheVariants.{Create, Close, Read, Write, Flush, SetEnd, Lock, Unlock, QueryDir, Notify, QueryInfo, SetBasic, SetDisposition, Rename, Link, SetSecurity, SetReparse, GetReparse, DeleteReparse, SetQuota, QueryQuota, Cancel}
use Rattle.fsa_model.specs.Words.{most_id, most_mask, is_name}
use Rattle.fsa_model.specs.FieldText.{number_text, mask_text}
use Rattle.fsa_model.specs.OpenLines.{create_text, is_create}
use Rattle.fsa_model.specs.ByteLines.{read_text, is_read, write_text, is_write, set_end_text, is_set_end}
use Rattle.fsa_model.specs.LockLines.{lock_text, unlock_text, is_range_line}
use Rattle.fsa_model.specs.OplockLines.{level_fields_text, is_oplock}
use Rattle.fsa_model.specs.NameLines.{naming_text, set_disposition_text, is_naming_line}
use Rattle.fsa_model.specs.InformationLines.{query_info_text, is_query_info, set_basic_text, is_set_basic, set_security_text, is_set_security}
use Rattle.fsa_model.specs.ListingLines.{query_dir_text, is_query_dir_line, notify_text, is_notify}
use Rattle.fsa_model.specs.ControlLines.{set_reparse_text, is_set_reparse, get_reparse_text, is_get_reparse, delete_reparse_text, is_delete_reparse, set_quota_text, is_set_quota}
use Rattle.fsa_model.specs.Lines.{Line, Version, DefaultTable, PairTable, Pair, ClientLine, RequestLine}
use Rattle.fsa_model.specs.Verbs.{verb}

-- the fields behind a verb
abbrev pub fields_text : What → List ℕ
fields_text (Ask (Create path wanted share disposition options attributes key)) = create_text path wanted share disposition options attributes key
fields_text (Ask (Close handle)) = number_text handle
fields_text (Ask (Read handle place count)) = read_text handle place count
fields_text (Ask (Write handle start bytes)) = write_text handle start bytes
fields_text (Ask (Flush handle)) = number_text handle
fields_text (Ask (SetEnd handle length)) = set_end_text handle length
fields_text (Ask (Lock handle place count exclusive wait)) = lock_text handle place count exclusive wait
fields_text (Ask (Unlock handle place count)) = unlock_text handle place count
fields_text (Ask (Oplock handle level)) = level_fields_text handle level
fields_text (Ask (Ack handle level)) = level_fields_text handle level
fields_text (Ask (SetDisposition handle delete)) = set_disposition_text handle delete
fields_text (Ask (Rename handle path replace)) = naming_text handle path replace
fields_text (Ask (Link handle path replace)) = naming_text handle path replace
fields_text (Ask (QueryInfo handle kind room)) = query_info_text handle kind room
fields_text (Ask (SetBasic handle creation access write change attributes)) = set_basic_text handle creation access write change attributes
fields_text (Ask (SetSecurity handle owner dacl)) = set_security_text handle owner dacl
fields_text (Ask (QueryDir handle kind expression restart room)) = query_dir_text handle kind expression restart room
fields_text (Ask (Notify handle filter tree room)) = notify_text handle filter tree room
fields_text (Ask (SetReparse handle buffer)) = set_reparse_text handle buffer
fields_text (Ask (GetReparse handle room)) = get_reparse_text handle room
fields_text (Ask (DeleteReparse handle tag)) = delete_reparse_text handle tag
fields_text (Ask (SetQuota sid limit)) = set_quota_text sid limit
fields_text (Ask (QueryQuota sid)) = number_text sid
fields_text (Ask (Cancel number)) = number_text number
fields_text (Tick ticks) = number_text ticks
fields_text (WaitFor number) = number_text number
fields_text Leave = []

-- which calls a line can say: all but leaving, with numbers that fit their fields
abbrev pub can_be_spelled : What → Bool
can_be_spelled (Ask (Create path wanted share disposition options attributes key)) = is_create path wanted share options attributes key
can_be_spelled (Ask (Close handle)) = nat_le handle most_id
can_be_spelled (Ask (Read handle place count)) = is_read handle place count
can_be_spelled (Ask (Write handle start bytes)) = is_write handle start bytes
can_be_spelled (Ask (Flush handle)) = nat_le handle most_id
can_be_spelled (Ask (SetEnd handle length)) = is_set_end handle length
can_be_spelled (Ask (Lock handle place count exclusive wait)) = is_range_line handle place count
can_be_spelled (Ask (Unlock handle place count)) = is_range_line handle place count
can_be_spelled (Ask (Oplock handle level)) = is_oplock handle level
can_be_spelled (Ask (Ack handle level)) = nat_le handle most_id
can_be_spelled (Ask (SetDisposition handle delete)) = nat_le handle most_id
can_be_spelled (Ask (Rename handle path replace)) = is_naming_line handle path
can_be_spelled (Ask (Link handle path replace)) = is_naming_line handle path
can_be_spelled (Ask (QueryInfo handle kind room)) = is_query_info handle room
can_be_spelled (Ask (SetBasic handle creation access write change attributes)) = is_set_basic handle creation access write change attributes
can_be_spelled (Ask (SetSecurity handle owner dacl)) = is_set_security handle owner dacl
can_be_spelled (Ask (QueryDir handle kind expression restart room)) = is_query_dir_line handle expression room
can_be_spelled (Ask (Notify handle filter tree room)) = is_notify handle filter room
can_be_spelled (Ask (SetReparse handle buffer)) = is_set_reparse handle buffer
can_be_spelled (Ask (GetReparse handle room)) = is_get_reparse handle room
can_be_spelled (Ask (DeleteReparse handle tag)) = is_delete_reparse handle tag
can_be_spelled (Ask (SetQuota sid limit)) = is_set_quota sid limit
can_be_spelled (Ask (QueryQuota sid)) = nat_le sid most_id
can_be_spelled (Ask (Cancel number)) = nat_le number most_id
can_be_spelled (Tick ticks) = nat_le ticks most_id
can_be_spelled (WaitFor number) = nat_le number most_id
can_be_spelled Leave = false

-- SIDs, each a field
abbrev pub sids_text : List ℕ → List ℕ
sids_text sids = flat_map number_text sids

-- the text of a line, without its line feed
abbrev pub line_text : Line → List ℕ
line_text Version = codes "fsa 1"
line_text DefaultTable = codes "table default"
line_text PairTable = codes "table pairs"
line_text (Pair source target) = codes "up" ++ (mask_text source ++ mask_text target)
line_text (ClientLine name sids) = codes "client" ++ (32 ∷ (name ++ sids_text sids))
line_text (RequestLine name number what) = name ++ (number_text number ++ (32 ∷ (verb what ++ fields_text what)))

-- what lines can say
abbrev pub is_line : Line → Bool
is_line (Pair source target) = nat_le source most_mask && nat_le target most_mask
is_line (ClientLine name sids) = is_name name && nat_le 1 (length sids) && nat_le (length sids) 16 && list_all (λ sid. nat_le sid most_id) sids
is_line (RequestLine name number what) = is_name name && nat_le number most_id && can_be_spelled what
is_line _ = true

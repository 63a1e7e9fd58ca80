-- The requests that a script can make: each verb, and the lines of the file that reads its fields. Any
-- other word is no verb.
use Rattle.std.specs.Prelude.{ℕ, List, Result, Err, if◌then◌else◌, codes}
use Rattle.fsa_types.specs.declared.request.What.{What}
use Rattle.fsa_model.specs.Fault.{Kind, BadSyntax}
use Rattle.fsa_model.specs.Words.{same}
use Rattle.fsa_model.specs.OpenLines.{create_fields, close_fields}
use Rattle.fsa_model.specs.ByteLines.{read_fields, write_fields, flush_fields, set_end_fields}
use Rattle.fsa_model.specs.LockLines.{lock_fields, unlock_fields}
use Rattle.fsa_model.specs.OplockLines.{oplock_fields, ack_fields}
use Rattle.fsa_model.specs.NameLines.{rename_fields, link_fields, set_disposition_fields}
use Rattle.fsa_model.specs.InformationLines.{query_info_fields, set_basic_fields, set_security_fields}
use Rattle.fsa_model.specs.ListingLines.{query_dir_fields, notify_fields}
use Rattle.fsa_model.specs.ControlLines.{set_reparse_fields, get_reparse_fields, delete_reparse_fields, set_quota_fields, query_quota_fields}
use Rattle.fsa_model.specs.ClockLines.{tick_fields}
use Rattle.fsa_model.specs.WaitLines.{cancel_fields, wait_fields}

-- what the fields say where the verb is one of these; where it is another, the reading goes on
abbrev pub open_line : List ℕ → List ℕ → Result What Kind → Result What Kind
open_line verb fields other =
    if same verb (codes "create") then create_fields fields
    else if same verb (codes "close") then close_fields fields
    else other

abbrev pub byte_line : List ℕ → List ℕ → Result What Kind → Result What Kind
byte_line verb fields other =
    if same verb (codes "read") then read_fields fields
    else if same verb (codes "write") then write_fields fields
    else if same verb (codes "flush") then flush_fields fields
    else if same verb (codes "setend") then set_end_fields fields
    else other

abbrev pub lock_line : List ℕ → List ℕ → Result What Kind → Result What Kind
lock_line verb fields other =
    if same verb (codes "lock") then lock_fields fields
    else if same verb (codes "unlock") then unlock_fields fields
    else other

abbrev pub oplock_line : List ℕ → List ℕ → Result What Kind → Result What Kind
oplock_line verb fields other =
    if same verb (codes "oplock") then oplock_fields fields
    else if same verb (codes "ack") then ack_fields fields
    else other

abbrev pub name_line : List ℕ → List ℕ → Result What Kind → Result What Kind
name_line verb fields other =
    if same verb (codes "rename") then rename_fields fields
    else if same verb (codes "link") then link_fields fields
    else if same verb (codes "setdelete") then set_disposition_fields fields
    else other

abbrev pub information_line : List ℕ → List ℕ → Result What Kind → Result What Kind
information_line verb fields other =
    if same verb (codes "query") then query_info_fields fields
    else if same verb (codes "setbasic") then set_basic_fields fields
    else if same verb (codes "setsecurity") then set_security_fields fields
    else other

abbrev pub listing_line : List ℕ → List ℕ → Result What Kind → Result What Kind
listing_line verb fields other =
    if same verb (codes "querydir") then query_dir_fields fields
    else if same verb (codes "notify") then notify_fields fields
    else other

abbrev pub control_line : List ℕ → List ℕ → Result What Kind → Result What Kind
control_line verb fields other =
    if same verb (codes "setreparse") then set_reparse_fields fields
    else if same verb (codes "getreparse") then get_reparse_fields fields
    else if same verb (codes "deletereparse") then delete_reparse_fields fields
    else if same verb (codes "setquota") then set_quota_fields fields
    else if same verb (codes "queryquota") then query_quota_fields fields
    else other

abbrev pub clock_line : List ℕ → List ℕ → Result What Kind → Result What Kind
clock_line verb fields other =
    if same verb (codes "tick") then tick_fields fields
    else other

abbrev pub wait_line : List ℕ → List ℕ → Result What Kind → Result What Kind
wait_line verb fields other =
    if same verb (codes "cancel") then cancel_fields fields
    else if same verb (codes "wait") then wait_fields fields
    else other

-- what a verb and its fields say
unfoldable pub what_of : List ℕ → List ℕ → Result What Kind
what_of verb fields =
    open_line verb fields
    (byte_line verb fields
    (lock_line verb fields
    (oplock_line verb fields
    (name_line verb fields
    (information_line verb fields
    (listing_line verb fields
    (control_line verb fields
    (clock_line verb fields
    (wait_line verb fields
    (Err BadSyntax))))))))))

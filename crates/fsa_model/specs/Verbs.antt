-- The word of each call, in scripts and in printed text.
use Rattle.std.specs.Prelude.{ℕ, List, codes}
use Rattle.fsa_types.specs.declared.request.Request.{Request}
use Rattle.fsa_types.specs.declared.request.Request.TheVariants.{Create, Close, Read, Write, Flush, Lock, Unlock, QueryDir, Notify, QueryInfo, SetBasic, SetEnd, SetDisposition, Rename, Link, SetSecurity, SetReparse, GetReparse, DeleteReparse, SetQuota, QueryQuota, Oplock, Ack, Cancel}
use Rattle.fsa_types.specs.declared.request.What.{What}
use Rattle.fsa_types.specs.declared.request.What.TheVariants.{Ask, Tick, WaitFor, Leave}

-- the word of a request
abbrev pub request_word : Request → List ℕ
request_word (Create path wanted share disposition options attributes key) = codes "create"
request_word (Close handle) = codes "close"
request_word (Read handle at count) = codes "read"
request_word (Write handle at bytes) = codes "write"
request_word (Flush handle) = codes "flush"
request_word (Lock handle at count exclusive wait) = codes "lock"
request_word (Unlock handle at count) = codes "unlock"
request_word (QueryDir handle kind expression restart room) = codes "querydir"
request_word (Notify handle filter tree room) = codes "notify"
request_word (QueryInfo handle kind room) = codes "query"
request_word (SetBasic handle creation access write change attributes) = codes "setbasic"
request_word (SetEnd handle length) = codes "setend"
request_word (SetDisposition handle delete) = codes "setdelete"
request_word (Rename handle path replace) = codes "rename"
request_word (Link handle path replace) = codes "link"
request_word (SetSecurity handle owner dacl) = codes "setsecurity"
request_word (SetReparse handle bytes) = codes "setreparse"
request_word (GetReparse handle room) = codes "getreparse"
request_word (DeleteReparse handle tag) = codes "deletereparse"
request_word (SetQuota sid limit) = codes "setquota"
request_word (QueryQuota sid) = codes "queryquota"
request_word (Oplock handle level) = codes "oplock"
request_word (Ack handle level) = codes "ack"
request_word (Cancel number) = codes "cancel"

-- the word of a call
abbrev pub verb : What → List ℕ
verb (Ask request) = request_word request
verb (Tick ticks) = codes "tick"
verb (WaitFor number) = codes "wait"
verb Leave = codes "leave"

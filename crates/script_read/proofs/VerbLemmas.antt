-- Verbs and their fields that are written are read again.
use Rattle.std.proofs.Common.{◌≡◌, ℕ, true, List, refl}
use Rattle.std.specs.Prelude.{Ok}
use Rattle.fsa_types.specs.declared.request.What.{What}
use Rattle.fsa_types.specs.declared.request.What.TheVariants.{Ask, Tick, WaitFor}
use Rattle.fsa_types.specs.declared.request.Request.TheVariants.{Oplock, Ack}
use Rattle.fsa_types.specs.declared.request.Request.TheVariants.{Create, Close, Read, Write, Flush, SetEnd, Lock, Unlock, QueryDir, Notify, QueryInfo, SetBasic, SetDisposition, Rename, Link, SetSecurity, SetReparse, GetReparse, DeleteReparse, SetQuota, QueryQuota, Cancel}
use Rattle.fsa_model.specs.Words.{most_id}
use Rattle.fsa_model.specs.Verbs.{verb}
use Rattle.fsa_model.specs.Requests.{what_of}
use Rattle.fsa_model.specs.Spelling.{fields_text, can_be_spelled}
use Rattle.fsa_model.specs.Spelled.{SpellsFields}
use Rattle.script_read.proofs.SpellLemmas.{at_most, NoSpace, EndsWord}
use Rattle.script_read.proofs.OpenLineLemmas.{create_fields-again, create_fields-spelled, close_fields-again}
use Rattle.script_read.proofs.ByteLineLemmas.{read_fields-again, write_fields-again, flush_fields-again, set_end_fields-again}
use Rattle.script_read.proofs.LockLineLemmas.{lock_fields-again, unlock_fields-again}
use Rattle.script_read.proofs.OplockLineLemmas.{oplock_fields-again, ack_fields-again}
use Rattle.script_read.proofs.NameLineLemmas.{rename_fields-again, rename_fields-spelled, link_fields-again, link_fields-spelled, set_disposition_fields-again}
use Rattle.script_read.proofs.InformationLineLemmas.{query_info_fields-again, set_basic_fields-again, set_security_fields-again}
use Rattle.script_read.proofs.ListingLineLemmas.{query_dir_fields-again, query_dir_fields-spelled, notify_fields-again}
use Rattle.script_read.proofs.ControlLineLemmas.{set_reparse_fields-again, get_reparse_fields-again, delete_reparse_fields-again, set_quota_fields-again, query_quota_fields-again}
use Rattle.script_read.proofs.ClockLineLemmas.{tick_fields-again}
use Rattle.script_read.proofs.WaitLineLemmas.{cancel_fields-again, wait_fields-again}

pub what_of-again : (what : What) → can_be_spelled what ≡ true → what_of (verb what) (fields_text what) ≡ Ok what
unfolding what_of
what_of-again (Ask (Create path wanted share disposition options attributes key)) built = create_fields-again path wanted share disposition options attributes key built
what_of-again (Ask (Close handle)) built = close_fields-again handle (at_most handle most_id built)
what_of-again (Ask (Read handle place count)) built = read_fields-again handle place count built
what_of-again (Ask (Write handle start bytes)) built = write_fields-again handle start bytes built
what_of-again (Ask (Flush handle)) built = flush_fields-again handle (at_most handle most_id built)
what_of-again (Ask (SetEnd handle length)) built = set_end_fields-again handle length built
what_of-again (Ask (Lock handle place count exclusive wait)) built = lock_fields-again handle place count exclusive wait built
what_of-again (Ask (Unlock handle place count)) built = unlock_fields-again handle place count built
what_of-again (Ask (Oplock handle level)) built = oplock_fields-again handle level built
what_of-again (Ask (Ack handle level)) built = ack_fields-again handle level (at_most handle most_id built)
what_of-again (Ask (SetDisposition handle delete)) built = set_disposition_fields-again handle delete (at_most handle most_id built)
what_of-again (Ask (Rename handle path replace)) built = rename_fields-again handle path replace built
what_of-again (Ask (Link handle path replace)) built = link_fields-again handle path replace built
what_of-again (Ask (QueryInfo handle kind room)) built = query_info_fields-again handle kind room built
what_of-again (Ask (SetBasic handle creation access write change attributes)) built = set_basic_fields-again handle creation access write change attributes built
what_of-again (Ask (SetSecurity handle owner dacl)) built = set_security_fields-again handle owner dacl built
what_of-again (Ask (QueryDir handle kind expression restart room)) built = query_dir_fields-again handle kind expression restart room built
what_of-again (Ask (Notify handle filter tree room)) built = notify_fields-again handle filter tree room built
what_of-again (Ask (SetReparse handle buffer)) built = set_reparse_fields-again handle buffer built
what_of-again (Ask (GetReparse handle room)) built = get_reparse_fields-again handle room built
what_of-again (Ask (DeleteReparse handle tag)) built = delete_reparse_fields-again handle tag built
what_of-again (Ask (SetQuota sid limit)) built = set_quota_fields-again sid limit built
what_of-again (Ask (QueryQuota sid)) built = query_quota_fields-again sid (at_most sid most_id built)
what_of-again (Ask (Cancel number)) built = cancel_fields-again number (at_most number most_id built)
what_of-again (Tick ticks) built = tick_fields-again ticks (at_most ticks most_id built)
what_of-again (WaitFor number) built = wait_fields-again number (at_most number most_id built)
what_of-again _ built = cc

-- so it is with other bytes that write the fields
pub what_of-spelled : (what : What) (fields : List ℕ) → SpellsFields what fields → can_be_spelled what ≡ true → what_of (verb what) fields ≡ Ok what
unfolding what_of
what_of-spelled (Ask (Create path wanted share disposition options attributes key)) fields spells built =
    rw spells.2 (create_fields-spelled path spells.0 wanted share disposition options attributes key spells.1 built)
what_of-spelled (Ask (Close handle)) fields is built = rw is (close_fields-again handle (at_most handle most_id built))
what_of-spelled (Ask (Read handle place count)) fields is built = rw is (read_fields-again handle place count built)
what_of-spelled (Ask (Write handle start bytes)) fields is built = rw is (write_fields-again handle start bytes built)
what_of-spelled (Ask (Flush handle)) fields is built = rw is (flush_fields-again handle (at_most handle most_id built))
what_of-spelled (Ask (SetEnd handle length)) fields is built = rw is (set_end_fields-again handle length built)
what_of-spelled (Ask (Lock handle place count exclusive wait)) fields is built = rw is (lock_fields-again handle place count exclusive wait built)
what_of-spelled (Ask (Unlock handle place count)) fields is built = rw is (unlock_fields-again handle place count built)
what_of-spelled (Ask (Oplock handle level)) fields is built = rw is (oplock_fields-again handle level built)
what_of-spelled (Ask (Ack handle level)) fields is built = rw is (ack_fields-again handle level (at_most handle most_id built))
what_of-spelled (Ask (SetDisposition handle delete)) fields is built = rw is (set_disposition_fields-again handle delete (at_most handle most_id built))
what_of-spelled (Ask (Rename handle path replace)) fields spells built = rw spells.2 (rename_fields-spelled handle path spells.0 replace spells.1 built)
what_of-spelled (Ask (Link handle path replace)) fields spells built = rw spells.2 (link_fields-spelled handle path spells.0 replace spells.1 built)
what_of-spelled (Ask (QueryInfo handle kind room)) fields is built = rw is (query_info_fields-again handle kind room built)
what_of-spelled (Ask (SetBasic handle creation access write change attributes)) fields is built = rw is (set_basic_fields-again handle creation access write change attributes built)
what_of-spelled (Ask (SetSecurity handle owner dacl)) fields is built = rw is (set_security_fields-again handle owner dacl built)
what_of-spelled (Ask (QueryDir handle kind expression restart room)) fields spells built = rw spells.2 (query_dir_fields-spelled handle kind expression spells.0 restart room spells.1 built)
what_of-spelled (Ask (Notify handle filter tree room)) fields is built = rw is (notify_fields-again handle filter tree room built)
what_of-spelled (Ask (SetReparse handle buffer)) fields is built = rw is (set_reparse_fields-again handle buffer built)
what_of-spelled (Ask (GetReparse handle room)) fields is built = rw is (get_reparse_fields-again handle room built)
what_of-spelled (Ask (DeleteReparse handle tag)) fields is built = rw is (delete_reparse_fields-again handle tag built)
what_of-spelled (Ask (SetQuota sid limit)) fields is built = rw is (set_quota_fields-again sid limit built)
what_of-spelled (Ask (QueryQuota sid)) fields is built = rw is (query_quota_fields-again sid (at_most sid most_id built))
what_of-spelled (Ask (Cancel number)) fields is built = rw is (cancel_fields-again number (at_most number most_id built))
what_of-spelled (Tick ticks) fields is built = rw is (tick_fields-again ticks (at_most ticks most_id built))
what_of-spelled (WaitFor number) fields is built = rw is (wait_fields-again number (at_most number most_id built))
what_of-spelled _ fields is built = cc

pub NoSpace-verb : (what : What) → can_be_spelled what ≡ true → NoSpace (verb what)
NoSpace-verb (Ask (Create path wanted share disposition options attributes key)) built = (refl, (refl, (refl, (refl, (refl, (refl, tt))))))
NoSpace-verb (Ask (Close handle)) built = (refl, (refl, (refl, (refl, (refl, tt)))))
NoSpace-verb (Ask (Read handle place count)) built = (refl, (refl, (refl, (refl, tt))))
NoSpace-verb (Ask (Write handle place bytes)) built = (refl, (refl, (refl, (refl, (refl, tt)))))
NoSpace-verb (Ask (QueryInfo handle kind room)) built = (refl, (refl, (refl, (refl, (refl, tt)))))
NoSpace-verb (Ask (SetBasic handle creation access write change attributes)) built = (refl, (refl, (refl, (refl, (refl, (refl, (refl, (refl, tt))))))))
NoSpace-verb (Ask (SetSecurity handle owner dacl)) built = (refl, (refl, (refl, (refl, (refl, (refl, (refl, (refl, (refl, (refl, (refl, tt)))))))))))
NoSpace-verb (Ask (QueryDir handle kind expression restart room)) built = (refl, (refl, (refl, (refl, (refl, (refl, (refl, (refl, tt))))))))
NoSpace-verb (Ask (Notify handle filter tree room)) built = (refl, (refl, (refl, (refl, (refl, (refl, tt))))))
NoSpace-verb (Ask (SetReparse handle buffer)) built = (refl, (refl, (refl, (refl, (refl, (refl, (refl, (refl, (refl, (refl, tt))))))))))
NoSpace-verb (Ask (GetReparse handle room)) built = (refl, (refl, (refl, (refl, (refl, (refl, (refl, (refl, (refl, (refl, tt))))))))))
NoSpace-verb (Ask (DeleteReparse handle tag)) built = (refl, (refl, (refl, (refl, (refl, (refl, (refl, (refl, (refl, (refl, (refl, (refl, (refl, tt)))))))))))))
NoSpace-verb (Ask (SetQuota sid limit)) built = (refl, (refl, (refl, (refl, (refl, (refl, (refl, (refl, tt))))))))
NoSpace-verb (Ask (QueryQuota sid)) built = (refl, (refl, (refl, (refl, (refl, (refl, (refl, (refl, (refl, (refl, tt))))))))))
NoSpace-verb (Ask (Flush handle)) built = (refl, (refl, (refl, (refl, (refl, tt)))))
NoSpace-verb (Ask (SetEnd handle length)) built = (refl, (refl, (refl, (refl, (refl, (refl, tt))))))
NoSpace-verb (Ask (Lock handle place count exclusive wait)) built = (refl, (refl, (refl, (refl, tt))))
NoSpace-verb (Ask (Unlock handle place count)) built = (refl, (refl, (refl, (refl, (refl, (refl, tt))))))
NoSpace-verb (Ask (Oplock handle level)) built = (refl, (refl, (refl, (refl, (refl, (refl, tt))))))
NoSpace-verb (Ask (Ack handle level)) built = (refl, (refl, (refl, tt)))
NoSpace-verb (Ask (SetDisposition handle delete)) built = (refl, (refl, (refl, (refl, (refl, (refl, (refl, (refl, (refl, tt)))))))))
NoSpace-verb (Ask (Rename handle path replace)) built = (refl, (refl, (refl, (refl, (refl, (refl, tt))))))
NoSpace-verb (Ask (Link handle path replace)) built = (refl, (refl, (refl, (refl, tt))))
NoSpace-verb (Ask (Cancel number)) built = (refl, (refl, (refl, (refl, (refl, (refl, tt))))))
NoSpace-verb (WaitFor number) built = (refl, (refl, (refl, (refl, tt))))
NoSpace-verb (Tick ticks) built = (refl, (refl, (refl, (refl, tt))))
NoSpace-verb _ built = cc

pub EndsWord-fields : (what : What) → can_be_spelled what ≡ true → EndsWord (fields_text what)
EndsWord-fields (Ask (Create path wanted share disposition options attributes key)) built = refl
EndsWord-fields (Ask (Close handle)) built = refl
EndsWord-fields (Ask (Read handle place count)) built = refl
EndsWord-fields (Ask (Write handle start bytes)) built = refl
EndsWord-fields (Ask (Flush handle)) built = refl
EndsWord-fields (Ask (SetEnd handle length)) built = refl
EndsWord-fields (Ask (Lock handle place count exclusive wait)) built = refl
EndsWord-fields (Ask (Unlock handle place count)) built = refl
EndsWord-fields (Ask (Oplock handle level)) built = refl
EndsWord-fields (Ask (Ack handle level)) built = refl
EndsWord-fields (Ask (SetDisposition handle delete)) built = refl
EndsWord-fields (Ask (Rename handle path replace)) built = refl
EndsWord-fields (Ask (Link handle path replace)) built = refl
EndsWord-fields (Ask (QueryInfo handle kind room)) built = refl
EndsWord-fields (Ask (SetBasic handle creation access write change attributes)) built = refl
EndsWord-fields (Ask (SetSecurity handle owner dacl)) built = refl
EndsWord-fields (Ask (QueryDir handle kind expression restart room)) built = refl
EndsWord-fields (Ask (Notify handle filter tree room)) built = refl
EndsWord-fields (Ask (SetReparse handle buffer)) built = refl
EndsWord-fields (Ask (GetReparse handle room)) built = refl
EndsWord-fields (Ask (DeleteReparse handle tag)) built = refl
EndsWord-fields (Ask (SetQuota sid limit)) built = refl
EndsWord-fields (Ask (QueryQuota sid)) built = refl
EndsWord-fields (Ask (Cancel number)) built = refl
EndsWord-fields (Tick ticks) built = refl
EndsWord-fields (WaitFor number) built = refl
EndsWord-fields _ built = tt

pub EndsWord-spelled : (what : What) (fields : List ℕ) → SpellsFields what fields → can_be_spelled what ≡ true → EndsWord fields
EndsWord-spelled (Ask (Create path wanted share disposition options attributes key)) fields spells built = rw spells.2 refl
EndsWord-spelled (Ask (Close handle)) fields is built = rw is refl
EndsWord-spelled (Ask (Read handle place count)) fields is built = rw is refl
EndsWord-spelled (Ask (Write handle start bytes)) fields is built = rw is refl
EndsWord-spelled (Ask (Flush handle)) fields is built = rw is refl
EndsWord-spelled (Ask (SetEnd handle length)) fields is built = rw is refl
EndsWord-spelled (Ask (Lock handle place count exclusive wait)) fields is built = rw is refl
EndsWord-spelled (Ask (Unlock handle place count)) fields is built = rw is refl
EndsWord-spelled (Ask (Oplock handle level)) fields is built = rw is refl
EndsWord-spelled (Ask (Ack handle level)) fields is built = rw is refl
EndsWord-spelled (Ask (SetDisposition handle delete)) fields is built = rw is refl
EndsWord-spelled (Ask (Rename handle path replace)) fields spells built = rw spells.2 refl
EndsWord-spelled (Ask (Link handle path replace)) fields spells built = rw spells.2 refl
EndsWord-spelled (Ask (QueryInfo handle kind room)) fields is built = rw is refl
EndsWord-spelled (Ask (SetBasic handle creation access write change attributes)) fields is built = rw is refl
EndsWord-spelled (Ask (SetSecurity handle owner dacl)) fields is built = rw is refl
EndsWord-spelled (Ask (QueryDir handle kind expression restart room)) fields spells built = rw spells.2 refl
EndsWord-spelled (Ask (Notify handle filter tree room)) fields is built = rw is refl
EndsWord-spelled (Ask (SetReparse handle buffer)) fields is built = rw is refl
EndsWord-spelled (Ask (GetReparse handle room)) fields is built = rw is refl
EndsWord-spelled (Ask (DeleteReparse handle tag)) fields is built = rw is refl
EndsWord-spelled (Ask (SetQuota sid limit)) fields is built = rw is refl
EndsWord-spelled (Ask (QueryQuota sid)) fields is built = rw is refl
EndsWord-spelled (Ask (Cancel number)) fields is built = rw is refl
EndsWord-spelled (Tick ticks) fields is built = rw is refl
EndsWord-spelled (WaitFor number) fields is built = rw is refl
EndsWord-spelled _ fields is built = cc

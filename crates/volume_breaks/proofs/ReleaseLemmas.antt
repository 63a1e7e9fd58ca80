-- What ends with a handle is lost to the calls that wait for it.
use Rattle.std.proofs.Common.{◌≡◌, ℕ, suc, ◌+◌, ◌<◌, Bool, true, false, not, List, [], ◌∷◌, ◌++◌, length, get_or, take, refl, ap, sym, ◌∙◌, arith}
use Rattle.std.specs.Prelude.{◌==◌, ◌&&◌, ◌||◌, filter, is_some}
use Rattle.std.specs.List.{list_any}
use Rattle.std.proofs.Math.Seq.{take-suc}
use Rattle.std.proofs.lemmas.List.Folds.{list_any-append}
use Rattle.fsa_types.specs.declared.reply.Blocker.{Blocker}
use Rattle.fsa_types.specs.declared.reply.Blocker.TheVariants.{Break, Lock as LockOf}
use Rattle.fsa_model.specs.Volume.{Lock, Oplock}
use Rattle.fsa_model.specs.Waiting.{is_breaking}
use Rattle.fsa_model.proofs.RowLaws.{or-false}
use Rattle.key_index.proofs.RowLaws.{any-both}
use Rattle.pending_queue.specs.PendingQueue.{is_same, with_blocker_ended}
use Rattle.pending_queue.proofs.HeldLaws.{among-ended, among-same}
use Rattle.volume_breaks.specs.Calls.{AreHeld, Calls, LoseBlockers, is_lock_of, is_break_of}

-- two tests that say the same of what lives
pub held-equal : (alive other : Blocker → Bool) (calls : Calls) → ((b : Blocker) → alive b ≡ other b) → AreHeld alive calls → AreHeld other calls
held-equal alive other calls same held = held ∙ among-same alive other calls.items (λ k d within i e inside. same _)

-- one thing ends
pub lose-one : (old : Calls) (blocker : Blocker) (gone : Blocker → Bool) → ((b : Blocker) → is_same blocker b ≡ gone b) → LoseBlockers gone old (record old { held = with_blocker_ended old.held blocker })
lose-one old blocker gone same = λ alive held.
    let step : (b : Blocker) → (alive b && not (is_same blocker b)) ≡ (alive b && not (gone b)) = λ b. ap (λ ends. alive b && not ends) (same b) in
    ap (λ its. with_blocker_ended its blocker) held ∙ sym (among-ended alive old.items blocker)
    ∙ among-same (λ b. alive b && not (is_same blocker b)) (λ b. alive b && not (gone b)) old.items (λ k d within i e inside. step (get_or (get_or old.items k d).1.blockers i e))

-- nothing ends
pub lose-none : (old : Calls) (gone : Blocker → Bool) → ((b : Blocker) → gone b ≡ false) → LoseBlockers gone old old
lose-none old gone none = λ alive held. held-equal alive (λ b. alive b && not (gone b)) old (λ b. rw (none b) (sym (and_all (alive b)))) held
  where
    and_all : (a : Bool) → (a && true) ≡ a
    and_all true = refl
    and_all false = refl

-- some end, and then others
pub lose-both : (old mid new : Calls) (first second both : Blocker → Bool) → LoseBlockers first old mid → LoseBlockers second mid new
    → ((b : Blocker) → both b ≡ (first b || second b)) → LoseBlockers both old new
lose-both old mid new first second both one two same = λ alive held.
    held-equal (λ b. (alive b && not (first b)) && not (second b)) (λ b. alive b && not (both b)) new (λ b. rw (same b) (apart (alive b) (first b) (second b)))
    (two (λ b. alive b && not (first b)) (one alive held))
  where
    apart : (a b c : Bool) → ((a && not b) && not c) ≡ (a && not (b || c))
    apart true true c = refl
    apart true false c = refl
    apart false b c = refl

-- ---- locks

pub lock-same : (lock : ℕ × Lock) (handle : ℕ) → (lock.1.handle == handle) ≡ true → (b : Blocker) → is_same (LockOf lock.0) b ≡ is_lock_of (lock ∷ []) handle b
lock-same lock handle its (LockOf number) = rw its (sym (or-false (lock.0 == number)))
lock-same lock handle its (Break number) = refl

pub lock-other : (lock : ℕ × Lock) (handle : ℕ) → (lock.1.handle == handle) ≡ false → (b : Blocker) → is_lock_of (lock ∷ []) handle b ≡ false
lock-other lock handle other (LockOf number) = rw other refl
lock-other lock handle other (Break number) = refl

pub locks-append : (locks more : List (ℕ × Lock)) (handle : ℕ) (b : Blocker) → is_lock_of (locks ++ more) handle b ≡ (is_lock_of locks handle b || is_lock_of more handle b)
locks-append locks more handle (LockOf number) = list_any-append (λ (entry : ℕ × Lock). entry.1.handle == handle && entry.0 == number) locks more
locks-append locks more handle (Break number) = refl

pub locks-more : (old mid new : Calls) (locks : List (ℕ × Lock)) (place handle : ℕ) (lock : ℕ × Lock) → place < length locks → lock ≡ get_or locks place lock
    → LoseBlockers (is_lock_of (take place locks) handle) old mid → LoseBlockers (is_lock_of (lock ∷ []) handle) mid new
    → LoseBlockers (is_lock_of (take (place + 1) locks) handle) old new
locks-more old mid new locks place handle lock within read before one =
    let next : place + 1 ≡ suc place = omega arith in
    let more : take (place + 1) locks ≡ take place locks ++ lock ∷ [] = ap (λ n. take n locks) next ∙ take-suc locks place lock within ∙ ap (λ last. take place locks ++ last ∷ []) (sym read) in
    lose-both old mid new (is_lock_of (take place locks) handle) (is_lock_of (lock ∷ []) handle) (is_lock_of (take (place + 1) locks) handle) before one
    (λ b. ap (λ those. is_lock_of those handle b) more ∙ locks-append (take place locks) (lock ∷ []) handle b)

-- what has the same locks of a handle loses the same
pub lose-same : (old new : Calls) (some all : List (ℕ × Lock)) (handle : ℕ) → filter (λ entry. entry.1.handle == handle) some ≡ filter (λ entry. entry.1.handle == handle) all
    → LoseBlockers (is_lock_of some handle) old new → LoseBlockers (is_lock_of all handle) old new
lose-same old new some all handle own lost = λ alive held.
    held-equal (λ b. alive b && not (is_lock_of some handle b)) (λ b. alive b && not (is_lock_of all handle b)) new (λ b. ap (λ gone. alive b && not gone) (same b)) (lost alive held)
  where
    same : (b : Blocker) → is_lock_of some handle b ≡ is_lock_of all handle b
    same (LockOf number) =
        any-both (λ (entry : ℕ × Lock). entry.1.handle == handle) (λ entry. entry.0 == number) some
        ∙ ap (list_any (λ (entry : ℕ × Lock). entry.0 == number)) own
        ∙ sym (any-both (λ (entry : ℕ × Lock). entry.1.handle == handle) (λ entry. entry.0 == number) all)
    same (Break number) = refl

-- ---- breaks

pub break-same : (oplock : Oplock) (handle : ℕ) → (oplock.handle == handle) ≡ true → is_some oplock.target ≡ true → (b : Blocker) → is_same (Break oplock.number) b ≡ is_break_of (oplock ∷ []) handle b
break-same oplock handle its breaks (Break number) = rw (its, breaks) (sym (or-false (oplock.number == number)))
break-same oplock handle its breaks (LockOf number) = refl

pub breaks-append : (oplocks more : List Oplock) (handle : ℕ) (b : Blocker) → is_break_of (oplocks ++ more) handle b ≡ (is_break_of oplocks handle b || is_break_of more handle b)
breaks-append oplocks more handle (Break number) = list_any-append (λ (oplock : Oplock). oplock.handle == handle && is_breaking number oplock) oplocks more
breaks-append oplocks more handle (LockOf number) = refl

pub breaks-more : (old mid new : Calls) (oplocks : List Oplock) (place handle : ℕ) (oplock : Oplock) → place < length oplocks → oplock ≡ get_or oplocks place oplock
    → LoseBlockers (is_break_of (take place oplocks) handle) old mid → LoseBlockers (is_break_of (oplock ∷ []) handle) mid new
    → LoseBlockers (is_break_of (take (place + 1) oplocks) handle) old new
breaks-more old mid new oplocks place handle oplock within read before one =
    let next : place + 1 ≡ suc place = omega arith in
    let more : take (place + 1) oplocks ≡ take place oplocks ++ oplock ∷ [] = ap (λ n. take n oplocks) next ∙ take-suc oplocks place oplock within ∙ ap (λ last. take place oplocks ++ last ∷ []) (sym read) in
    lose-both old mid new (is_break_of (take place oplocks) handle) (is_break_of (oplock ∷ []) handle) (is_break_of (take (place + 1) oplocks) handle) before one
    (λ b. ap (λ those. is_break_of those handle b) more ∙ breaks-append (take place oplocks) (oplock ∷ []) handle b)

pub lose-lock : (old : Calls) (lock : ℕ × Lock) (handle : ℕ) → (lock.1.handle == handle) ≡ true
    → LoseBlockers (is_lock_of (lock ∷ []) handle) old (record old { held = with_blocker_ended old.held (LockOf lock.0) })
lose-lock old lock handle its = lose-one old (LockOf lock.0) (is_lock_of (lock ∷ []) handle) (lock-same lock handle its)

pub lose-break : (old : Calls) (oplock : Oplock) (handle : ℕ) → (oplock.handle == handle) ≡ true → is_some oplock.target ≡ true
    → LoseBlockers (is_break_of (oplock ∷ []) handle) old (record old { held = with_blocker_ended old.held (Break oplock.number) })
lose-break old oplock handle its breaks = lose-one old (Break oplock.number) (is_break_of (oplock ∷ []) handle) (break-same oplock handle its breaks)

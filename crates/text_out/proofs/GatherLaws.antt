-- Laws of a text that is gathered and put now and then.
use Rattle.std.proofs.Common.{◌≡◌, ◌∙◌, ℕ, List, [], ◌++◌, length, take, drop, ap, sym, subst, append_assoc, append-nil}
use Rattle.std.proofs.Math.Seq.{drop-append_seam, take-append_seam}
use Rattle.std.specs.Prelude.{Err}
use Rattle.wire_io.specs.Sink.{Written, Appends, AppendsPart}
use Rattle.wire_io.proofs.SinkLaws.{Appends-append, Appends-none, AppendsPart-append, AppendsPart-longer}
use Rattle.text_out.specs.Writes.{AddsText, Finishes, Gathers, GivesUp}
use Rattle.text_out.specs.declared.write.TextFault.{TextFault}
use Rattle.text_out.specs.declared.write.TextFault.TheVariants.{Failed, NoMemory}

-- nothing came, and nothing was put
pub Gathers-none : (written : Written) (gathered : List ℕ) → Gathers written written gathered gathered []
Gathers-none written gathered = record { front = []; splits = append-nil gathered; put = Appends-none written }

-- a text, and another behind it
pub Gathers-append : (first mid now : Written) (gathered between later text more : List ℕ) → Gathers first mid gathered between text → Gathers mid now between later more → Gathers first now gathered later (text ++ more)
Gathers-append first mid now gathered between later text more one two = record {
  front = one.front ++ two.front;
  splits = sym (append_assoc gathered text more)
      ∙ ap (λ (all : List ℕ). all ++ more) one.splits
      ∙ append_assoc one.front between more
      ∙ ap (λ (rest : List ℕ). one.front ++ rest) two.splits
      ∙ sym (append_assoc one.front two.front later);
  put = Appends-append first mid now one.front two.front one.put two.put;
}

-- what was gathered, the bytes of a text behind what stands before them, and what follows them
around-splits : (gathered mid before bytes after text : List ℕ) (place : ℕ) → place ≡ length (gathered ++ before) → mid ≡ (gathered ++ before) ++ after → before ++ bytes ++ after ≡ text
    → gathered ++ text ≡ (take place mid ++ bytes) ++ drop place mid
around-splits gathered mid before bytes after text place here made is =
    rw (here, made, take-append_seam (gathered ++ before) after, drop-append_seam (gathered ++ before) after, ← is) (regroup gathered before bytes after)
  where
    regroup : (gathered before bytes after : List ℕ) → gathered ++ (before ++ bytes ++ after) ≡ ((gathered ++ before) ++ bytes) ++ after
    regroup gathered before bytes after = simp append_assoc

-- all up to the bytes was put, and the bytes, and what follows them is gathered
pub around-put : (written written_now : Written) (gathered mid gathered_now before bytes after text : List ℕ) (place : ℕ) → place ≡ length (gathered ++ before) → mid ≡ (gathered ++ before) ++ after → before ++ bytes ++ after ≡ text
    → Appends written written_now (take place mid ++ bytes) → gathered_now ≡ drop place mid → Gathers written written_now gathered gathered_now text
around-put written written_now gathered mid gathered_now before bytes after text place here made is put rest = record {
  front = take place mid ++ bytes;
  splits = rw rest (around-splits gathered mid before bytes after text place here made is);
  put = put;
}

-- a part of it was put
pub around-failed : (written written_now : Written) (gathered mid before bytes after text : List ℕ) (place : ℕ) → place ≡ length (gathered ++ before) → mid ≡ (gathered ++ before) ++ after → before ++ bytes ++ after ≡ text
    → AppendsPart written written_now (take place mid ++ bytes) → AppendsPart written written_now (gathered ++ text)
around-failed written written_now gathered mid before bytes after text place here made is part =
    subst (AppendsPart written written_now) (sym (around-splits gathered mid before bytes after text place here made is))
    (AppendsPart-longer written written_now (take place mid ++ bytes) (drop place mid) part)

-- what was gathered was put in place of a text
pub GivesUp-adds : (written written_now : Written) (gathered mid gathered_now text : List ℕ) (fault : TextFault) → mid ≡ gathered → GivesUp written written_now mid gathered_now fault → AddsText written written_now gathered gathered_now text (Err fault)
GivesUp-adds written written_now gathered mid gathered_now text Failed same gave = (AppendsPart-longer written written_now gathered text (subst (AppendsPart written written_now) same gave.0), gave.1)
GivesUp-adds written written_now gathered mid gathered_now text NoMemory same gave = (subst (Appends written written_now) same gave.0, gave.1)

pub GivesUp-finishes : (written written_now : Written) (gathered mid gathered_now text : List ℕ) (fault : TextFault) → mid ≡ gathered → GivesUp written written_now mid gathered_now fault → Finishes written written_now gathered gathered_now text (Err fault)
GivesUp-finishes written written_now gathered mid gathered_now text Failed same gave = (AppendsPart-longer written written_now gathered text (subst (AppendsPart written written_now) same gave.0), gave.1)
GivesUp-finishes written written_now gathered mid gathered_now text NoMemory same gave = (subst (Appends written written_now) same gave.0, gave.1)

-- what is gathered is put, and more behind it
pub Gathers-more : (first mid now : Written) (gathered gathered_now text more : List ℕ) → Gathers first mid gathered gathered_now text → Appends mid now (gathered_now ++ more) → Appends first now ((gathered ++ text) ++ more)
Gathers-more first mid now gathered gathered_now text more so put =
    subst (Appends first now) (sym (ap (λ (all : List ℕ). all ++ more) so.splits ∙ append_assoc so.front gathered_now more))
    (Appends-append first mid now so.front (gathered_now ++ more) so.put put)

-- what is gathered is put
pub Gathers-all : (first mid now : Written) (gathered gathered_now text : List ℕ) → Gathers first mid gathered gathered_now text → Appends mid now gathered_now → Appends first now (gathered ++ text)
Gathers-all first mid now gathered gathered_now text so put = subst (Appends first now) (sym so.splits) (Appends-append first mid now so.front gathered_now so.put put)

-- a part of what is gathered, and of more behind it
pub Gathers-more_part : (first mid now : Written) (gathered gathered_now text more : List ℕ) → Gathers first mid gathered gathered_now text → AppendsPart mid now (gathered_now ++ more) → AppendsPart first now ((gathered ++ text) ++ more)
Gathers-more_part first mid now gathered gathered_now text more so part =
    subst (AppendsPart first now) (sym (ap (λ (all : List ℕ). all ++ more) so.splits ∙ append_assoc so.front gathered_now more))
    (AppendsPart-append first mid now so.front (gathered_now ++ more) so.put part)

-- a part of what is gathered
pub Gathers-part : (first mid now : Written) (gathered gathered_now text : List ℕ) → Gathers first mid gathered gathered_now text → AppendsPart mid now gathered_now → AppendsPart first now (gathered ++ text)
Gathers-part first mid now gathered gathered_now text so part = subst (AppendsPart first now) (sym so.splits) (AppendsPart-append first mid now so.front gathered_now so.put part)

-- Which bytes write a line. A line has one text but for the units of a path or an expression: each is written as itself,
-- where it may be, or as an escape.
use Rattle.std.specs.Prelude.{◌≡◌, ℕ, ◌⊎◌, Bool, true, List, [], ◌∷◌, ◌++◌, codes}
use Rattle.fsa_types.specs.declared.request.DirKind.{DirKind}
use Rattle.fsa_types.specs.declared.request.What.{What}
use Rattle.fsa_types.specs.declared.request.What.TheVariants.{Ask}
use Rattle.fsa_types.specs.declared.request.Request.TheVariants.{Create, Rename, Link, QueryDir}
use Rattle.fsa_model.specs.Words.{is_plain}
use Rattle.fsa_model.specs.FieldText.{mask_text, number_text, choice_text}
pub use Rattle.fsa_model.specs.FieldText.{escape_text}
use Rattle.fsa_model.specs.OpenLines.{disposition_text}
use Rattle.fsa_model.specs.ListingLines.{dir_kind_text, listing_end_text}
use Rattle.fsa_model.specs.Lines.{Line, RequestLine}
use Rattle.fsa_model.specs.Spelling.{fields_text, line_text}
use Rattle.fsa_model.specs.Verbs.{verb}

-- these bytes write the unit
abbrev pub SpellsUnit : ℕ → List ℕ → Type 0
SpellsUnit unit bytes = ((is_plain unit ≡ true) × (bytes ≡ unit ∷ [])) ⊎ (bytes ≡ escape_text unit)

-- these bytes write the units, one after another
abbrev pub SpellsUnits : List ℕ → List ℕ → Type 0
SpellsUnits [] bytes = bytes ≡ []
SpellsUnits (unit ∷ units) bytes = (front back : List ℕ) × (bytes ≡ front ++ back) × SpellsUnit unit front × SpellsUnits units back

-- these bytes write the fields of a rename or a link
abbrev pub SpellsNaming : ℕ → List ℕ → Bool → List ℕ → Type 0
SpellsNaming handle path replace bytes =
    (text : List ℕ) × SpellsUnits path text
    × (bytes ≡ number_text handle ++ (32 ∷ 61 ∷ (text ++ choice_text (codes "replace") (codes "keep") replace)))

-- these bytes write the fields of a listing
abbrev pub SpellsListing : ℕ → DirKind → List ℕ → Bool → ℕ → List ℕ → Type 0
SpellsListing handle kind expression restart room bytes =
    (text : List ℕ) × SpellsUnits expression text
    × (bytes ≡ number_text handle ++ (dir_kind_text kind ++ (32 ∷ 61 ∷ (text ++ listing_end_text restart room))))

-- these bytes write the fields behind a verb
abbrev pub SpellsFields : What → List ℕ → Type 0
SpellsFields (Ask (Create path wanted share disposition options attributes key)) bytes =
    (text : List ℕ) × SpellsUnits path text
    × (bytes ≡ 32 ∷ 61 ∷ (text ++ (mask_text wanted ++ (mask_text share ++ (disposition_text disposition ++ (mask_text options ++ (mask_text attributes ++ number_text key)))))))
SpellsFields (Ask (Rename handle path replace)) bytes = SpellsNaming handle path replace bytes
SpellsFields (Ask (Link handle path replace)) bytes = SpellsNaming handle path replace bytes
SpellsFields (Ask (QueryDir handle kind expression restart room)) bytes = SpellsListing handle kind expression restart room bytes
SpellsFields what bytes = bytes ≡ fields_text what

-- these bytes write the line, without its line feed
abbrev pub Spells : Line → List ℕ → Type 0
Spells (RequestLine name number what) bytes =
    (fields : List ℕ) × SpellsFields what fields × (bytes ≡ name ++ (number_text number ++ (32 ∷ (verb what ++ fields))))
Spells line bytes = bytes ≡ line_text line

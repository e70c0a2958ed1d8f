-- The text of a listing.
use Rattle.std.specs.Prelude.{◌≡◌, ℕ, ◌+◌, List, [], ◌∷◌, ◌++◌, length, Ok, Err, codes, decimal}
use Rattle.format.specs.RefusalText.{refusal_lines}
use Rattle.runs.specs.Runs.{highest}
use Rattle.runs.specs.Canonical.{canonical}
use Rattle.messages.specs.declared.field.Field.{Field}
use Rattle.messages.specs.Lawful.{levels_of}
use Rattle.messages.specs.Messages.{Means, Outcome}
use Rattle.listing.specs.declared.figures.Figures.{Figures}

-- the figures of field k: shortest is how long the canonical string of its cells is
abbrev pub figures_of : ℕ → Field (List ℕ) → Figures
figures_of k f = record {
  number = k;
  width = f.frame.ni;
  height = f.frame.nj;
  highest = highest (levels_of f);
  string = length f.string;
  shortest = length (canonical (levels_of f));
}

abbrev pub size_lines : Figures → List ℕ
size_lines x = codes "field=" ++ (decimal x.number ++ (codes "\nwidth=" ++ (decimal x.width ++ (codes "\nheight=" ++ (decimal x.height ++ codes "\n")))))

abbrev pub level_lines : Figures → List ℕ
level_lines x = codes "highest=" ++ (decimal x.highest ++ (codes "\nstring=" ++ (decimal x.string ++ (codes "\nshortest=" ++ (decimal x.shortest ++ codes "\n")))))

abbrev pub figures_lines : Figures → List ℕ
figures_lines x = size_lines x ++ level_lines x

-- the lines of fields, numbered from k on
abbrev pub fields_lines : ℕ → List (Field (List ℕ)) → List ℕ
fields_lines k [] = []
fields_lines k (f ∷ fs) = figures_lines (figures_of k f) ++ fields_lines (k + 1) fs

abbrev pub top_lines : ℕ → ℕ → List ℕ
top_lines octets fields = codes "octets=" ++ (decimal octets ++ (codes "\nfields=" ++ (decimal fields ++ codes "\n")))

-- the whole text, by what the octets mean
abbrev pub page : List ℕ → Outcome → List ℕ
page s (Ok m) = top_lines (length s) (length m.fields) ++ fields_lines 0 m.fields
page s (Err e) = refusal_lines e

-- a text lists octets: it is the text of what they mean
pub record Lists (s : List ℕ) (text : List ℕ) : Type 0 where
  pub outcome : Outcome
  pub means : Means s outcome
  pub written : text ≡ page s outcome

-- The five lines that tell a refusal.
use Rattle.std.specs.Prelude.{ℕ, List, ◌++◌, codes, decimal}
use Rattle.format.specs.declared.fault.Layer.{Layer}
use Rattle.format.specs.declared.fault.Layer.TheVariants.{Message, Section, String, Charts, Packer}
use Rattle.format.specs.declared.fault.Refusal.{Refusal}

abbrev pub layer_text : Layer → List ℕ
layer_text Message = codes "message"
layer_text (Section n) = codes "section " ++ decimal n
layer_text String = codes "string"
layer_text Charts = codes "charts"
layer_text Packer = codes "packer"

abbrev pub refusal_lines : Refusal → List ℕ
refusal_lines r =
    codes "refused=" ++ (decimal r.number ++ (codes "\nlayer=" ++ (layer_text r.layer ++ (codes "\nplace=" ++ (decimal r.place ++
    (codes "\nfield=" ++ (decimal r.fields ++ (codes "\ncells=" ++ (decimal r.cells ++ codes "\n")))))))))

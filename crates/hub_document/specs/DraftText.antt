-- The text that is hashed for a revision that is made here, part by part (own).
use Rattle.std.specs.Prelude.{ℕ, List, Bool, Option, ◌++◌, codes}
use Rattle.md5.specs.Md5.{Holds}
use Rattle.md5.specs.declared.Md5.{Md5}
use Rattle.hub_model.specs.Revision.{Revision}
use Rattle.hub_model.specs.Draft.{bool_text, parent_text}

-- the hasher took this text after the text that it held
abbrev pub Takes : List ℕ → Md5 → Md5 → Type 0
Takes text old new = (held : List ℕ) → Holds old held → Holds new (held ++ text)

-- The text in front of a draft's id, with the quote that opens it. For an edit with no parent it is
-- `[false,null,"`. With the parent 1-a it is `[false,"1-a","`.
abbrev pub front_text : Bool → Option Revision → List ℕ
front_text deleted parent = codes "[" ++ (bool_text deleted ++ (codes "," ++ (parent_text parent ++ codes ",\"")))

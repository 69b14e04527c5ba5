-- The answers of a reading, beside the reading that is defined (own).
use Rattle.std.specs.Prelude.{◌≡◌, ◌<◌, ◌⊎◌, ℕ, List, length, Bool, not, is_some, Some, None}
use Rattle.std.specs.Prelude.{Result, Ok, Err, IfOk, IfErr, IsOk}
use Rattle.serde_json.specs.View.{view}
use Rattle.serde_json.specs.declared.value.Value.{Value}
use Rattle.hub_document.specs.Read.{json_of}
use Rattle.hub_document.specs.declared.doc.Doc.{Doc}
use Rattle.hub_document.specs.declared.doc.DocFault.{DocFault}
use Rattle.hub_document.specs.declared.doc.DocFault.TheVariants.{NoMemory, NotJson}

-- The answer is the defined one, or NoMemory. NoMemory comes only where no fault is defined: a value that is
-- no object is NotObject, and a good document is itself or NoMemory.
pub record Reads {X : Type 0} (defined result : Result X DocFault) : Type 0 where
  pub ok : IfOk result (λ x. defined ≡ Ok x)
  pub err : IfErr result (λ e. (e ≡ NoMemory) ⊎ (defined ≡ Err e))
  pub memory : IfErr result (λ e. e ≡ NoMemory → IsOk defined)

-- As `Reads`, for an edit: an edit that is made here has no path, and any other edit has a path.
pub record ReadsEdit (new_edits : Bool) (defined result : Result Doc DocFault) : Type 0 where
  pub ok : IfOk result (λ d. defined ≡ Ok d)
  pub err : IfErr result (λ e. (e ≡ NoMemory) ⊎ (defined ≡ Err e))
  pub memory : IfErr result (λ e. e ≡ NoMemory → IsOk defined)
  pub history : IfOk result (λ d. is_some d.path ≡ not new_edits)

-- The answer is the text's JSON value, NotJson where the text has none, or NoMemory. An empty text takes no
-- memory.
pub record ReadsJson (text : List ℕ) (result : Result Value DocFault) : Type 0 where
  pub ok : IfOk result (λ v. json_of text ≡ Some (view v))
  pub err : IfErr result (λ e. (e ≡ NoMemory) ⊎ ((e ≡ NotJson) × (json_of text ≡ None)))
  pub memory : IfErr result (λ e. e ≡ NoMemory → 0 < length text)

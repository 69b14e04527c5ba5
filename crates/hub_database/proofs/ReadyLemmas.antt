-- An edit that is to be stored takes memory.
use Rattle.std.proofs.Common.{◌≡◌, ℕ, ◌<◌, List, [], Bool, Option, Some, sym, ◌∙◌, subst, arith}
use Rattle.std.specs.Prelude.{Result, Ok, Err, OnErr}
use Rattle.std.proofs.lemmas.Bool.Decides.{nat_tests}
use Rattle.std.proofs.lemmas.Grind.{common_steps}
use Rattle.hub_model.specs.Revision.{Revision}
use Rattle.hub_model.specs.Journal.{Edit}
use Rattle.hub_model.specs.Draft.{Draft, generation_of, parent_of}
use Rattle.hub_revtree.specs.Extend.{edit_on_path}
use Rattle.hub_database.specs.Looked.{IsStorable, NeedsRoomFor, look_at, look_by, look_made, unless_full}
use Rattle.hub_database.specs.declared.document.Incoming.{Incoming}
use Rattle.hub_database.specs.declared.document.Looked.{Looked}
use Rattle.hub_database.specs.declared.document.Looked.TheVariants.{Ready}

-- where a look says that an edit with its history is to be stored, it is this edit
by_is : (e0 edit : Edit) (known acceptable full : Bool)
    → Ready edit ≡ unless_full full (look_by e0 known acceptable) → edit ≡ e0
by_is e0 edit known acceptable full h = grind (arith, common_steps)

-- where a look says so of an edit that is made here, the edit has a path, and a generation is left
made_has : (edits : List Edit) (draft : Draft) (edit : Edit) (o : Option (List Revision)) (full : Bool)
    → Ready edit ≡ unless_full full (look_made (edit_on_path edits draft o))
    → (path : List Revision) × (o ≡ Some path) × (generation_of (parent_of path) < 65535)
made_has edits draft edit o full h = grind (arith, nat_tests, common_steps)

needs : (id : List ℕ) (edits : List Edit) (full : Bool) (edit : Incoming) (e : Edit)
    → IsStorable edits (Ready e) → Ready e ≡ unless_full full (look_at id edits edit)
    → NeedsRoomFor edits [] edit
needs id edits full edit e storable h = grind (arith, nat_tests, common_steps, by_is, made_has)

-- so an error after such a look is out of memory, where memory is needed
pub ready_needs : {A E : Type 0} (r : Result A E) (id : List ℕ) (edits : List Edit) (full : Bool)
    (edit : Incoming) (l : Looked) (e : Edit)
    → l ≡ Ready e → IsStorable edits l → l ≡ unless_full full (look_at id edits edit)
    → OnErr r (NeedsRoomFor edits [] edit)
ready_needs (Ok a) id edits full edit l e is storable looked = tt
ready_needs (Err f) id edits full edit l e is storable looked =
    needs id edits full edit e (subst (IsStorable edits) is storable) (sym is ∙ looked)

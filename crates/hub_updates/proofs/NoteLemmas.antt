-- A list that fits a feed of a log goes on fitting it.
use Rattle.std.proofs.Common.{List, [], ◌∷◌, ◌++◌, refl, sym, subst}
use Rattle.std.proofs.lemmas.List.{map-append}
use Rattle.hub_model.specs.Feed.{Feed}
use Rattle.hub_model.specs.RightlyHanded.{Fits}
use Rattle.hub_model.specs.RowKind.{update_rows}
use Rattle.hub_model.specs.Updates.{Note, UpdateRow, edit_of, edits_of_log}
use Rattle.hub_model.specs.declared.feeds.Item.{Item}
use Rattle.hub_model.proofs.Fitting.{fits_grows}
use Rattle.hub_updates.specs.Log.{IsFitting}

-- once a note is added
pub fitting_noted : (notes : List Note) (note : Note) (feed : Feed) (items : List (Item UpdateRow))
    → IsFitting notes feed items → IsFitting (notes ++ note ∷ []) feed items
fitting_noted notes note feed items fitting = record {
  legal = (notes ++ note ∷ [], refl);
  fits =
      subst (λ J. Fits update_rows J feed items) (sym (map-append edit_of notes (note ∷ [])))
      (fits_grows update_rows (edits_of_log notes) (edit_of note ∷ []) feed items fitting.fits);
}

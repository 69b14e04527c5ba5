-- The map of local documents, as their list.
use Rattle.std.proofs.Common.{◌≡◌, ◌∙◌, ℕ, List, [], ◌∷◌, Bool, true, false, ap, refl, sym, Bor}
use Rattle.std.specs.Prelude.{Option, Some, None, map, find, option_map, String, string_bytes, if◌then◌else◌}
use Rattle.std.specs.Option.{option_copied}
use Rattle.std.specs.Str.{bytes_eq}
use Rattle.std.specs.Map.{lookup}
use Rattle.std.specs.BTreeMap.{insert_entry, is_at}
use Rattle.std.specs.Ordering.{nat_cmp, is_eq, match_ordering}
use Rattle.std.specs.Cmp.Lexicographic.{slice_cmp}
use Rattle.std.specs.String.{string_cmp}
use Rattle.std.specs.declared.cmp.Ordering.{Ordering}
use Rattle.std.specs.declared.cmp.Ordering.TheVariants.{Less, Equal, Greater}
use Rattle.std.proofs.lemmas.Map.Text.{is_eq-slice_cmp}
use Rattle.std.proofs.lemmas.Slice.Eq.{bytes_eq-Decides}
use Rattle.hub_database.specs.Answers.{local_named}
use Rattle.hub_database.specs.Database.{Local}
use Rattle.hub_database.specs.Locals.{put_at, put_local}
use Rattle.hub_database.specs.declared.local.Local as code
use Rattle.hub_database.proofs.CountLemmas.{text_turned}

abbrev pub entry_as : {Y : Type 0} → (String Y × code.Local) → Local
entry_as e = local_named (string_bytes e.0) e.1

-- the same for a local document that is borrowed
pub kept_behind : (id : List ℕ) (o : Option (Bor code.Local))
    → option_map (λ l. local_named id l.now) o
    ≡ option_map (local_named id) (option_copied o)
kept_behind id None = refl
kept_behind id (Some l) = refl

-- the local document that a look finds
pub found_in : {Y : Type 0} (id : List ℕ) (es : List (String Y × code.Local))
    → option_map (local_named id) (lookup (is_at (λ k. slice_cmp nat_cmp id (string_bytes k))) es)
    ≡ find (λ (local : Local). bytes_eq local.id id) (map entry_as es)
found_in id [] = refl
found_in id (e ∷ es) =
    ap (λ b. option_map (local_named id)
    (if b then Some e.1 else lookup (is_at (λ k. slice_cmp nat_cmp id (string_bytes k))) es))
    (is_eq-slice_cmp id (string_bytes e.0) ∙ text_turned id (string_bytes e.0))
    ∙ from (bytes_eq (string_bytes e.0) id) refl (found_in id es)
  where
    from : (b : Bool) → bytes_eq (string_bytes e.0) id ≡ b
        → option_map (local_named id) (lookup (is_at (λ k. slice_cmp nat_cmp id (string_bytes k))) es)
        ≡ find (λ (local : Local). bytes_eq local.id id) (map entry_as es)
        → option_map (local_named id)
        (if b then Some e.1 else lookup (is_at (λ k. slice_cmp nat_cmp id (string_bytes k))) es)
        ≡ (if b then Some (entry_as e) else find (λ (local : Local). bytes_eq local.id id) (map entry_as es))
    from true t h =
        ap (λ (i : List ℕ). Some (local_named i e.1)) (sym ((bytes_eq-Decides (string_bytes e.0) id).0 t))
    from false t h = h

-- the list, once a local document is put in
pub put_in : {Y : Type 0} (es : List (String Y × code.Local)) (key : String Y) (local : code.Local)
    → map entry_as (insert_entry string_cmp es key local)
    ≡ put_local (local_named (string_bytes key) local) (map entry_as es)
put_in [] key local = refl
put_in (e ∷ es) key local =
    from (slice_cmp nat_cmp (string_bytes key) (string_bytes e.0)) refl (put_in es key local)
  where
    from : (ordering : Ordering) → slice_cmp nat_cmp (string_bytes key) (string_bytes e.0) ≡ ordering
        → map entry_as (insert_entry string_cmp es key local)
        ≡ put_local (local_named (string_bytes key) local) (map entry_as es)
        → map entry_as
        (match_ordering ordering ((key, local) ∷ e ∷ es) ((e.0, local) ∷ es)
        (e ∷ insert_entry string_cmp es key local))
        ≡ put_at ordering (local_named (string_bytes key) local) (entry_as e) (map entry_as es)
        (put_local (local_named (string_bytes key) local) (map entry_as es))
    from Less t h = refl
    from Equal t h =
        ap (λ (i : List ℕ). local_named i local ∷ map entry_as es)
        (sym ((bytes_eq-Decides (string_bytes key) (string_bytes e.0)).0
        (sym (is_eq-slice_cmp (string_bytes key) (string_bytes e.0)) ∙ ap is_eq t)))
    from Greater t h = ap (λ (locals : List Local). entry_as e ∷ locals) h

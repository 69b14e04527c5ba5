-- The events of two databases and a follower, step by step.
use Rattle.std.proofs.Common.{◌≡◌, ◌∙◌, ℕ, ◌≤◌, List, [], ◌∷◌, ◌++◌, refl, sym, ap, subst, inr}
use Rattle.std.proofs.Common.{⊎_elim, Contains, true, false, Option, Some, None, option_map}
use Rattle.std.proofs.lemmas.Map.Views.{Contains-from_any}
use Rattle.std.proofs.lemmas.Slice.Eq.{bytes_eq-Decides}
use Rattle.std.specs.List.{list_any}
use Rattle.std.specs.Str.{bytes_eq}
use Rattle.hub_model.proofs.Lists.{contains_none, contains_cases}
use Rattle.hub_model.proofs.Tests.{or_left, or_right}
use Rattle.hub_follow_model.specs.Follower as follow
use Rattle.hub_follow_model.specs.World as world
use Rattle.hub_follow_model.specs.declared.seq.Seq.{Seq}
use Rattle.hub_follow_model.proofs.Fitting.{answers_fit}
use Rattle.hub_follow_model.proofs.Theorem.{claimed_within}
use Rattle.hub_follower.specs.Views.{answer_of}
use Rattle.hub_follower.specs.Worlds.{IsWithinNext, HasPlace, HasAnswered}
use Rattle.hub_follower.specs.declared.call.Answer.{Answer}

-- a run with one event more is a run
pub run_more : (events : List world.Event) (event : world.Event) (w mid new : world.World)
    → world.Run w events mid → world.Step mid event new → world.Run w (events ++ event ∷ []) new
run_more [] event w mid new r s = (new, subst (λ (z : world.World). world.Step z event new) r s, refl)
run_more (other ∷ events) event w mid new (m, step, rest) s =
    (m, step, run_more events event m mid new rest s)

-- after every run the place is a sequence that the source has
pub place_within : (limit : ℕ) (events : List world.Event) (w : world.World)
    → world.Run (world.empty_world limit) events w → HasPlace w
place_within limit events w r c e =
    claimed_within limit events w r c.n (inr (inr (ap (option_map (λ (place : Seq). place.n)) e)))

-- so a call for changes asks above a sequence that the source has
pub within_next : (follower : follow.Follower) (len : ℕ)
    → ((seq : Seq) → world.place_of follower ≡ Some seq → seq.n ≤ len)
    → IsWithinNext len (follow.next_call follower)
within_next follow.Down len h = tt
within_next (follow.SourceStart session_id) len h = tt
within_next (follow.TargetStart session_id source) len h = tt
within_next (follow.Ready s) len h = tt
within_next (follow.Busy s follow.Listing) len h = h s.place refl
within_next (follow.Busy s (follow.Comparison asked last)) len h = tt
within_next (follow.Busy s (follow.Retrieval next later got last)) len h = tt
within_next (follow.Busy s (follow.Storage got last)) len h = tt
within_next (follow.Busy s follow.SourceCheckpoint) len h = tt
within_next (follow.Busy s follow.TargetCheckpoint) len h = tt

-- an answer to the next call fits the call
pub answered_fits : (w mid : world.World) (next : Option follow.Call) (answer : Answer)
    → HasAnswered w next (Some answer) mid → follow.IsAnswerToNext next (answer_of answer)
answered_fits w mid None answer h = absurd h
answered_fits w mid (Some call) answer h = answers_fit w mid call (answer_of answer) h

-- ---- sessions

any_in : (q : List ℕ) (xs : List (List ℕ)) → list_any (bytes_eq q) xs ≡ true → Contains xs q
any_in q xs h = Contains-from_any (λ x y. (bytes_eq-Decides x y).0) q xs h

in_any : (q : List ℕ) (xs : List (List ℕ)) → Contains xs q → list_any (bytes_eq q) xs ≡ true
in_any q [] h = absurd (contains_none q h)
in_any q (x ∷ xs) h =
    ⊎_elim (λ (e : x ≡ q).
    or_left (bytes_eq q x) (list_any (bytes_eq q) xs) ((bytes_eq-Decides q x).1 (sym e)))
    (λ m. or_right (bytes_eq q x) (list_any (bytes_eq q) xs) (in_any q xs m)) (contains_cases x q xs h)

-- a session may begin where no call is owed and no earlier session had its id
pub free_for : (w : world.World) (id : List ℕ) → world.is_free w.follower ≡ true
    → list_any (bytes_eq id) w.sessions ≡ false → world.IsFreeFor w id
free_for w id f u =
    (f, λ h. let e = in_any id w.sessions h in let k : true ≡ false = sym e ∙ u in absurd (cc))

pub used_before : (w : world.World) (id : List ℕ) → list_any (bytes_eq id) w.sessions ≡ true
    → ¬ world.IsFreeFor w id
used_before w id u (free, new) = new (any_in id w.sessions u)

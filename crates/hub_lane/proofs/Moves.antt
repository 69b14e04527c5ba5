-- A take keeps the rule of a lane's queue, and learns that the label allows the taken and the held items.
use Rattle.std.proofs.Common.{◌≡◌, ℕ, zero, suc, List, [], ◌∷◌, ◌++◌, set}
use Rattle.std.proofs.Common.{sym, refl, ap, ◌∙◌, subst, inl, inr, append_assoc}
use mathlib.Core.Option.{some}
use lib.ListN.{get_elem?}
use Rattle.crossbeam_queue.specs.Fifo.{Pops, Learns}
use Rattle.hub_lane.specs.declared.rule.View.{View}
use Rattle.hub_lane.specs.declared.rule.View.TheVariants.{NoLabel, OfSender, OfReceiver}
use Rattle.hub_lane.specs.Rule.{IsLane, HasAllowedRest, IsAllowedWith, with_item}

-- the receiver's pass is the second
second : {L I : Type 0} (label label' : L) (sent taken mine : List I) (pass : ℕ)
    → get_elem? (OfSender label sent ∷ OfReceiver label taken ∷ []) pass ≡ some (OfReceiver label' mine)
    → (pass ≡ 1) × (label ≡ label') × (taken ≡ mine)
second label label' sent taken mine zero at = absurd (cc)
second label label' sent taken mine (suc zero) at = (refl, cc, cc)
second label label' sent taken mine (suc (suc pass)) at = absurd (cc)

-- a queue that is being made has no receiver's pass
no_receiver : {L I : Type 0} (label : L) (mine : List I) (pass : ℕ)
    → get_elem? (NoLabel ∷ []) pass ≡ some (OfReceiver label mine) → ⊥
no_receiver label mine zero at = cc
no_receiver label mine (suc pass) at = cc

module _ {L I : Type 0} (allows : L → List I → Type 0) where
  -- the facts of the rule where the receiver's pass is asked
  record AtReceiver (label : L) (mine items : List I) (views : List (View L I)) (pass : ℕ) : Type 0 where
    seat : pass ≡ 1
    sent : List I
    passes : views ≡ OfSender label sent ∷ OfReceiver label mine ∷ []
    in_order : sent ≡ mine ++ items
    allowed : allows label sent

  at_receiver : (label : L) (mine items : List I) (views : List (View L I)) (pass : ℕ)
      → IsLane allows items views → get_elem? views pass ≡ some (OfReceiver label mine)
      → AtReceiver label mine items views pass
  at_receiver label mine items views pass (inl new) at =
      absurd (no_receiver label mine pass (ap (λ vs. get_elem? vs pass) (sym new.one_pass) ∙ at))
  at_receiver label mine items views pass (inr lane) at =
      let here = ap (λ vs. get_elem? vs pass) (sym lane.two_passes) ∙ at in
      let is = second lane.label label lane.sent lane.taken mine pass here in record {
        seat = is.0;
        sent = lane.sent;
        passes = lane.two_passes
            ∙ (λ i. OfSender (is.1 i) lane.sent ∷ OfReceiver (is.1 i) (is.2 i) ∷ []);
        in_order = lane.in_order ∙ ap (λ xs. xs ++ items) is.2;
        allowed = subst (λ l. allows l lane.sent) is.1 lane.allowed;
      }

  pub takes : (pass : ℕ) (label : L) (mine : List I)
      → Pops (IsLane allows) pass (OfReceiver label mine) (λ x w.
      (w ≡ with_item (OfReceiver label mine) x) × HasAllowedRest allows w)
  takes pass label mine x items views lane at =
      let t = at_receiver label mine (x ∷ items) views pass lane at in
      let now : List I = mine ++ x ∷ [] in
      let order : t.sent ≡ now ++ items = t.in_order ∙ sym (append_assoc mine (x ∷ []) items) in (
        OfReceiver label now,
        inr (record {
          label = label;
          sent = t.sent;
          taken = now;
          two_passes = λ i. set (t.passes i) (t.seat i) (OfReceiver label now);
          in_order = order;
          allowed = t.allowed;
        }),
        (refl, (items, subst (λ xs. allows label xs) order t.allowed)),
      )

  pub learns : (pass : ℕ) (label : L) (mine : List I)
      → Learns (IsLane allows) pass (OfReceiver label mine) (IsAllowedWith allows (OfReceiver label mine))
  learns pass label mine items views lane at =
      let t = at_receiver label mine items views pass lane at in
      subst (λ xs. allows label xs) t.in_order t.allowed

-- The number up to which all was copied: it stays right as journals grow, and logs agree on right numbers.
use Rattle.std.proofs.Common.{◌≡◌, ◌≢◌, ℕ, suc, ◌≤◌, min, cond, List, [], ◌∷◌, ◌++◌, length}
use Rattle.std.proofs.Common.{map, take, drop, Contains, ◌⊎◌, inl, inr, refl, sym, ap, ⊎_elim}
use Rattle.std.proofs.Common.{◌∙◌, subst, arith, Bool, true, false, nat_eq, if◌then◌else◌}
use Rattle.std.proofs.Common.{Option, Some, None, bytes_eq, take-append-drop, length-append}
use Rattle.std.proofs.lemmas.List.Elements.{Contains-append_left, Contains-append_right}
use Rattle.std.proofs.lemmas.List.Elements.{Contains-append_cases}
use Rattle.std.proofs.lemmas.List.{drop-append-le}
use Rattle.hub_follow_model.specs.Follower.{Session, checkpoint_log}
use Rattle.hub_follow_model.specs.ChangesFeed.{items_of}
use Rattle.hub_follow_model.specs.Sequence.{beginning, count_in_life, seq_in, with_lives, lesser_seq}
use Rattle.hub_follow_model.specs.declared.seq.Seq.{Seq}
use Rattle.hub_follow_model.specs.ReplicationLog.{ReplicationLog, HistoryEntry, common_sequence}
use Rattle.hub_follow_model.specs.ReplicationLog.{common_session_sequence, recorded_seq_of}
use Rattle.hub_follow_model.specs.ReplicationLog.{lesser_sequence, history_of, IsRecordedIn}
use Rattle.hub_model.specs.Current.{IsCurrent}
use Rattle.hub_model.specs.Journal.{Edit, IsKnown}
use Rattle.hub_model.specs.Leaves.{IsLeaf}
use Rattle.hub_model.specs.Revision.{Revision}
use Rattle.hub_model.specs.RightlyHanded.{rows_of}
use Rattle.hub_model.specs.Row.{ChangeRow}
use Rattle.hub_follow_model.proofs.Bring.{IsBrought}
use Rattle.hub_model.proofs.Legal.{Holds, known_more}
use Rattle.hub_model.proofs.Lists.{contains_none, contains_here, contains_there, contains_cases, same_text}
use Rattle.hub_follow_model.proofs.Paths.{behind_more}

-- no edit after c is of the document
abbrev pub IsUnmoved : List Edit → ℕ → List ℕ → Type 0
IsUnmoved journal c id = (edit : Edit) → Contains (drop c journal) edit → edit.id ≢ id

-- of the documents that were not written after c each leaf is known at the target, or in hand
pub record IsDoneBut (journal later_journal : List Edit) (c : ℕ)
    (Hand : List ℕ → Revision → Type 0) : Type 0 where
  pub within : c ≤ length journal
  pub brought : (id : List ℕ) (revision : Revision) → IsUnmoved journal c id → IsLeaf journal id revision
      → IsKnown later_journal id revision ⊎ Hand id revision

pub record IsDone (journal later_journal : List Edit) (c : ℕ) : Type 0 where
  pub within : c ≤ length journal
  pub brought : (id : List ℕ) → IsUnmoved journal c id → IsBrought journal later_journal id

-- the source and the target may have grown
pub record Grows (journal later_journal other_journal edits : List Edit) : Type 0 where
  pub more : List Edit
  pub source : other_journal ≡ journal ++ more
  pub target : Holds edits later_journal

pub drop_in : {X : Type 0} (n : ℕ) (xs : List X) (x : X) → Contains (drop n xs) x → Contains xs x
drop_in n xs x h =
    subst (λ z. Contains z x) (take-append-drop n xs) (Contains-append_right (take n xs) (drop n xs) x h)

pub unmoved_before : (journal edits : List Edit) (c : ℕ) (id : List ℕ) → c ≤ length journal
    → IsUnmoved (journal ++ edits) c id → IsUnmoved journal c id
unmoved_before journal edits c id w u f h =
    u f (subst (λ z. Contains z f) (sym (drop-append-le c journal edits w))
    (Contains-append_left (drop c journal) edits f h))

pub leaf_before : (journal edits : List Edit) (c : ℕ) (id : List ℕ) (revision : Revision) → c ≤ length journal
    → IsUnmoved (journal ++ edits) c id → IsLeaf (journal ++ edits) id revision → IsLeaf journal id revision
leaf_before journal edits c id revision w u l = (
  known l.0.0 l.0.1.0 l.0.1.1 l.0.2,
  λ s b. l.1 s (behind_more (journal ++ edits) journal id revision s
      (λ edit d. Contains-append_left journal edits edit d) b),
)
  where
    known : (edit : Edit) → Contains (journal ++ edits) edit → edit.id ≡ id → Contains edit.path revision
        → IsKnown journal id revision
    known edit d n i = ⊎_elim (λ (v : Contains journal edit). (edit, (v, n), i))
        (λ v. absurd (u edit
        (subst (λ z. Contains z edit) (sym (drop-append-le c journal edits w))
        (Contains-append_right (drop c journal) edits edit v))
        n))
        (Contains-append_cases journal edits edit d)

pub more_length : (journal edits : List Edit) (c : ℕ) → c ≤ length journal → c ≤ length (journal ++ edits)
more_length journal edits c w = omega (arith, length-append journal edits)

pub done_grows : (journal later_journal other_journal edits : List Edit) (c : ℕ)
    → Grows journal later_journal other_journal edits → IsDone journal later_journal c
    → IsDone other_journal edits c
done_grows journal later_journal other_journal edits c g p =
    subst (λ (others : List Edit). IsDone others edits c) (sym g.source) (record {
      within = more_length journal g.more c p.within;
      brought = λ id u h l. known_more edits later_journal id h g.target
          (p.brought id (unmoved_before journal g.more c id p.within u) h
          (leaf_before journal g.more c id h p.within u l));
    })

pub done_but_grows : (journal later_journal other_journal edits : List Edit) (c : ℕ)
    (Hand : List ℕ → Revision → Type 0) → Grows journal later_journal other_journal edits
    → IsDoneBut journal later_journal c Hand → IsDoneBut other_journal edits c Hand
done_but_grows journal later_journal other_journal edits c Hand g p =
    subst (λ (others : List Edit). IsDoneBut others edits c Hand) (sym g.source) (record {
      within = more_length journal g.more c p.within;
      brought = λ id h u l. ⊎_elim (λ k. inl (known_more edits later_journal id h g.target k)) (λ k. inr k)
          (p.brought id h (unmoved_before journal g.more c id p.within u)
          (leaf_before journal g.more c id h p.within u l));
    })

pub done_zero : (journal later_journal : List Edit) → IsDone journal later_journal 0
done_zero journal later_journal =
    record { within = omega arith; brought = λ id u h l. absurd (u l.0.0 l.0.1.0 l.0.1.1) }

-- all was copied up to each number that a log records
abbrev pub LogDone : List Edit → List Edit → Option ReplicationLog → Type 0
LogDone journal later_journal log = (c : ℕ) → IsRecordedIn log c → IsDone journal later_journal c

abbrev pub PastDone : List Edit → List Edit → List HistoryEntry → Type 0
PastDone journal later_journal past =
    (p : HistoryEntry) → Contains past p → IsDone journal later_journal p.recorded_seq.n

module _ (journal later_journal : List Edit) where
  pub past_of_log : (log : Option ReplicationLog) → LogDone journal later_journal log
      → PastDone journal later_journal (history_of log)
  past_of_log None h p c = absurd (contains_none p c)
  past_of_log (Some log) h p c = h p.recorded_seq.n (inr (p, c, refl))

  pub done_min : (m n : ℕ) → IsDone journal later_journal m → IsDone journal later_journal n
      → IsDone journal later_journal (min m n)
  done_min m n p q =
      ⊎_elim (λ (e : min m n ≡ m). subst (λ z. IsDone journal later_journal z) (sym e) p)
      (λ (e : min m n ≡ n). subst (λ z. IsDone journal later_journal z) (sym e) q) (grind arith)

  -- a number that counts in another life is the same number, or 0
  pub done_counted : (life : ℕ) (seq : Seq) → IsDone journal later_journal seq.n
      → IsDone journal later_journal (seq_in life seq)
  done_counted life seq p = by_life seq.life
    where
      same : (b : Bool) → IsDone journal later_journal (if b then seq.n else 0)
      same true = p
      same false = done_zero journal later_journal

      by_life : (of : Option ℕ) → IsDone journal later_journal (count_in_life life seq.n of)
      by_life None = p
      by_life (Some of) = same (nat_eq of life)

  pub done_lesser : (seq t : Seq) → IsDone journal later_journal seq.n → IsDone journal later_journal t.n
      → IsDone journal later_journal (lesser_seq seq t).n
  done_lesser seq t p q = by_lives seq.life t.life
    where
      same : (life : ℕ) (b : Bool)
          → IsDone journal later_journal
          (if b then record { n = min seq.n t.n; life = Some life } else beginning).n
      same life true = done_min seq.n t.n p q
      same life false = done_zero journal later_journal

      by_lives : (l k : Option ℕ) → IsDone journal later_journal (with_lives (min seq.n t.n) l k).n
      by_lives None k = done_min seq.n t.n p q
      by_lives (Some life) None = done_min seq.n t.n p q
      by_lives (Some life) (Some other) = same life (nat_eq life other)

  pub done_recorded : (session : List ℕ) (past : List HistoryEntry) (seq otherwise : Seq)
      → PastDone journal later_journal past → IsDone journal later_journal seq.n
      → IsDone journal later_journal otherwise.n
      → IsDone journal later_journal (lesser_sequence seq (recorded_seq_of session past) otherwise).n
  done_recorded session [] seq otherwise h p q = q
  done_recorded session (x ∷ past) seq otherwise h p q =
      both (bytes_eq session x.session_id)
      (done_recorded session past seq otherwise (λ y c. h y (contains_there x y past c)) p q)
    where
      both : (b : Bool) → IsDone journal later_journal
          (lesser_sequence seq (recorded_seq_of session past) otherwise).n → IsDone journal later_journal
          (lesser_sequence seq (cond b (Some x.recorded_seq) (recorded_seq_of session past)) otherwise).n
      both true ih = done_lesser x.recorded_seq seq (h x (contains_here x past)) p
      both false ih = ih

  pub done_past : (source target : List HistoryEntry) → PastDone journal later_journal source
      → PastDone journal later_journal target
      → IsDone journal later_journal (common_session_sequence source target).n
  done_past source [] h k = done_zero journal later_journal
  done_past source (x ∷ target) h k =
      done_recorded x.session_id source x.recorded_seq (common_session_sequence source target) h
      (k x (contains_here x target)) (done_past source target h (λ y c. k y (contains_there x y target c)))

  -- all was copied up to the number on which two logs agree
  pub done_common : (source target : Option ReplicationLog) → LogDone journal later_journal source
      → LogDone journal later_journal target → IsDone journal later_journal (common_sequence source target).n
  done_common None target h k = done_zero journal later_journal
  done_common (Some source) None h k = done_zero journal later_journal
  done_common (Some source) (Some target) h k = both (bytes_eq source.session_id target.session_id)
    where
      both : (b : Bool)
          → IsDone journal later_journal
          (cond b (lesser_seq source.source_last_seq target.source_last_seq)
          (common_session_sequence source.history target.history)).n
      both true =
          done_lesser source.source_last_seq target.source_last_seq (h source.source_last_seq.n (inl refl))
          (k target.source_last_seq.n (inl refl))
      both false =
          done_past source.history target.history (past_of_log (Some source) h) (past_of_log (Some target) k)

  pub take_in : (n : ℕ) (past : List HistoryEntry) (p : HistoryEntry) → Contains (take n past) p
      → Contains past p
  take_in n past p c =
      subst (λ z. Contains z p) (take-append-drop n past)
      (Contains-append_left (take n past) (drop n past) p c)

  pub log_over_done : (session : Session) (past : List HistoryEntry)
      → IsDone journal later_journal session.place.n → PastDone journal later_journal past
      → LogDone journal later_journal (Some (checkpoint_log session past))
  log_over_done session past p h c (inl e) = subst (λ z. IsDone journal later_journal z) e p
  log_over_done session past p h c (inr (x, d, e)) =
      let own : HistoryEntry = record {
        session_id = session.session_id;
        start_last_seq = session.start;
        end_last_seq = session.place;
        recorded_seq = session.place;
      } in
      ⊎_elim (λ (q : own ≡ x).
      subst (λ z. IsDone journal later_journal z) (ap (λ (z : HistoryEntry). z.recorded_seq.n) q ∙ e) p)
      (λ q. subst (λ z. IsDone journal later_journal z) e (h x q))
      (contains_cases own x past (take_in 50 (own ∷ past) x d))

-- the last edit of a document, where it has any
pub last_of : (journal : List Edit) (id : List ℕ)
    → ((n : ℕ) × (other : Edit) × IsCurrent journal n other × (other.id ≡ id))
    ⊎ ((f : Edit) → Contains journal f → f.id ≢ id)
last_of [] id = inr (λ f c. absurd (contains_none f c))
last_of (edit ∷ journal) id = both (last_of journal id) (same_text edit.id id)
  where
    both : ((n : ℕ) × (other : Edit) × IsCurrent journal n other × (other.id ≡ id))
        ⊎ ((f : Edit) → Contains journal f → f.id ≢ id) → (edit.id ≡ id) ⊎ (edit.id ≢ id)
        → ((n : ℕ) × (other : Edit) × IsCurrent (edit ∷ journal) n other × (other.id ≡ id))
        ⊎ ((f : Edit) → Contains (edit ∷ journal) f → f.id ≢ id)
    both (inl (n, other, (b, l, s, m, none), q)) d =
        inl (suc n, other, (edit ∷ b, l, ap (λ (z : List Edit). edit ∷ z) s, omega arith, none), q)
    both (inr none) (inl q) = inl (1, edit, ([], journal, refl, omega arith, λ f c p. none f c (p ∙ q)), q)
    both (inr none) (inr q) =
        inr (λ f c. ⊎_elim (λ (v : edit ≡ f). λ p. q (ap (λ (z : Edit). z.id) v ∙ p)) (λ v. none f v)
        (contains_cases edit f journal c))

pub contains_map : {X Y : Type 0} (g : X → Y) (x : X) (xs : List X) → Contains xs x
    → Contains (map g xs) (g x)
contains_map g x [] c = absurd (contains_none x c)
contains_map g x (y ∷ xs) c = both (contains_map g x xs) (contains_cases y x xs c)
  where
    both : (Contains xs x → Contains (map g xs) (g x)) → (y ≡ x) ⊎ Contains xs x
        → Contains (g y ∷ map g xs) (g x)
    both ih (inl e) = subst (λ z. Contains (g y ∷ map g xs) (g z)) e (contains_here (g y) (map g xs))
    both ih (inr d) = contains_there (g y) (g x) (map g xs) (ih d)

pub map_contains : {X Y : Type 0} (g : X → Y) (xs : List X) (y : Y) → Contains (map g xs) y
    → (x : X) × Contains xs x × (g x ≡ y)
map_contains g [] y c = absurd (contains_none y c)
map_contains {X = X} g (x ∷ xs) y c = both (map_contains g xs y) (contains_cases (g x) y (map g xs) c)
  where
    both : (Contains (map g xs) y → (z : X) × Contains xs z × (g z ≡ y)) → (g x ≡ y) ⊎ Contains (map g xs) y
        → (z : X) × Contains (x ∷ xs) z × (g z ≡ y)
    both ih (inl e) = (x, contains_here x xs, e)
    both ih (inr d) = let i = ih d in (i.0, contains_there x i.0 xs i.1, i.2)

pub rows_of-items : (rows : List ChangeRow) (last pending : ℕ) → rows_of (items_of rows last pending) ≡ rows
rows_of-items [] last pending = refl
rows_of-items (row ∷ rows) last pending =
    ap (λ (z : List ChangeRow). row ∷ z) (rows_of-items rows last pending)

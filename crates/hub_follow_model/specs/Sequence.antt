-- Sequences of a source as a follower keeps them: each with the number of its life, where the life is known.
-- (Own, over the CouchDB Replication Protocol, to which a sequence is an opaque text.)
use Rattle.std.specs.Prelude.{ℕ, min, nat_eq, Bool, true, false, if◌then◌else◌, Option, Some, None}
use Rattle.hub_model.specs.Feed.{counted_in}
use Rattle.hub_follow_model.specs.declared.seq.Seq.{Seq}

-- the sequence before the first edit: nothing was copied
abbrev pub beginning : Seq
beginning = record { n = 0; life = None }

-- the sequence n of this life
abbrev pub seq_of : (life n : ℕ) → Seq
seq_of life n = record { n = n; life = Some life }

-- a number of a life, if one is known, as it counts in this life: 0 where the lives differ
abbrev pub count_in_life : (life n : ℕ) → Option ℕ → ℕ
count_in_life life n None = n
count_in_life life n (Some of) = counted_in life n of

-- a sequence as it counts in this life: 0 where it is of another life, and else its own number
abbrev pub seq_in : (life : ℕ) → Seq → ℕ
seq_in life seq = count_in_life life seq.n seq.life

-- a number with the life that is known of two; the beginning where two lives are known that differ
abbrev pub with_lives : ℕ → Option ℕ → Option ℕ → Seq
with_lives n None life = record { n = n; life = life }
with_lives n (Some life) None = record { n = n; life = Some life }
with_lives n (Some life) (Some other) =
    if nat_eq life other then record { n = n; life = Some life } else beginning

-- the lesser of two sequences: of 9-1 and 7-1 it is 7-1, of 9-1 and 7 too, and of 9-2 and 7-1 it is the
-- beginning
abbrev pub lesser_seq : Seq → Seq → Seq
lesser_seq seq other = with_lives (min seq.n other.n) seq.life other.life

-- the number of a sequence as it counts in this life; its own number where no life is known
abbrev pub counted_by : Seq → Option ℕ → ℕ
counted_by seq None = seq.n
counted_by seq (Some life) = seq_in life seq

-- whether the new place is the old one, as the old one counts in the new one's life. After 5 the place 5-1 is
-- the same, and so is 0-2 after 5-1.
abbrev pub is_same_place : (old new : Option Seq) → Bool
is_same_place None None = true
is_same_place None (Some new) = false
is_same_place (Some old) None = false
is_same_place (Some old) (Some new) = nat_eq (counted_by old new.life) new.n

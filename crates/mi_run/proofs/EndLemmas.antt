-- The end of a run: what waits to be written is written.
use Rattle.std.proofs.Common.{◌≡◌, ◌⊎◌, inl, inr, ℕ, List, [], Option, None, Some, IfSome, refl, sym, subst, ◌∙◌}
use Rattle.mi_outside.specs.Puts.{Output, PutsButRest, Puts, WritesFront}
use Rattle.mi_outside.specs.Written.{Emits}
use Rattle.mi_outside.proofs.Putting.{puts_on, puts_front, lost_on, lost_more, written_whole, written_front, put_front_written}
use Rattle.mi_model.specs.Run.{RunEnd as ModelEnd}
use Rattle.mi_reloc.specs.declared.ending.RunEnd.{RunEnd}
use Rattle.mi_reloc.specs.declared.ending.RunEnd.TheVariants.{Bye, Thrown, Spent, ReadFault, WriteFault, InputTooLong, PairNotAllowed, MadeFor, NoMemory}
use Rattle.mi_run.specs.Course.{PutsAs}
use Rattle.mi_run.specs.Ending.{EndsAs, WritesAs, KeepsLast, IsRefusal}
use Rattle.mi_run.proofs.Pieces.{not_both_faults}

abbrev Waits : Output → List ℕ → Type 0
Waits out bytes = out.gathered.waiting ≡ bytes

-- all of it was put, and then written
pub whole : (first second third : Output) (bytes : List ℕ) → Waits first [] → Waits third [] → Puts first second bytes → Puts second third [] → Emits first.written third.written bytes
whole first second third bytes none left p q = written_whole first.written third.written first.gathered third.gathered bytes none left (puts_on first second third bytes [] [] p q)

pub flushed_end : (end : RunEnd) (first second third : Output) (bytes : List ℕ) → (end ≡ WriteFault → ⊥) → Waits first [] → Waits third [] → PutsAs end first second bytes → Puts second third [] → WritesAs end first.written third.written bytes
flushed_end Bye first second third bytes n none left p q = whole first second third bytes none left p q
flushed_end (Thrown code) first second third bytes n none left p q = whole first second third bytes none left p q
flushed_end (Spent taken) first second third bytes n none left p q = whole first second third bytes none left p q
flushed_end InputTooLong first second third bytes n none left p q = whole first second third bytes none left p q
flushed_end ReadFault first second third bytes n none left p q =
    put_front_written first.written third.written first.gathered third.gathered bytes none (p.0, puts_on first second third bytes p.0 p.0 p.1 (puts_front second third [] p.0 q))
flushed_end WriteFault first second third bytes n none left p q = absurd (n refl)
flushed_end PairNotAllowed first second third bytes n none left p q = whole first second third [] none left p q
flushed_end (MadeFor pair) first second third bytes n none left p q = whole first second third [] none left p q
flushed_end NoMemory first second third bytes n none left p q = whole first second third [] none left p q

pub flushed_last : (end : RunEnd) (first second third : Output) (bytes : List ℕ) → PutsAs end first second bytes → Puts second third [] → KeepsLast end first.gathered.last third.gathered.last bytes
flushed_last Bye first second third bytes p q = q.last ∙ p.last
flushed_last (Thrown code) first second third bytes p q = q.last ∙ p.last
flushed_last (Spent taken) first second third bytes p q = q.last ∙ p.last
flushed_last InputTooLong first second third bytes p q = q.last ∙ p.last
flushed_last ReadFault first second third bytes p q = tt
flushed_last WriteFault first second third bytes p q = tt
flushed_last PairNotAllowed first second third bytes p q = q.last ∙ p.last
flushed_last (MadeFor pair) first second third bytes p q = q.last ∙ p.last
flushed_last NoMemory first second third bytes p q = q.last ∙ p.last

-- the output failed at the end
lost : (first second third : Output) (bytes rest : List ℕ) → Waits first [] → PutsButRest first second bytes rest → WritesFront second third [] → WritesAs WriteFault first.written third.written bytes
lost first second third bytes rest none p q =
    written_front first.written third.written first.gathered third.gathered bytes none (lost_on first second third bytes rest p (lost_more second third [] rest q))

lost_early : (first second third : Output) (bytes : List ℕ) → Waits first [] → Puts first second [] → WritesFront second third [] → WritesAs WriteFault first.written third.written bytes
lost_early first second third bytes none p q =
    written_front first.written third.written first.gathered third.gathered bytes none (lost_more first third [] bytes (lost_on first second third [] [] p q))

pub failed_end : (end : RunEnd) (first second third : Output) (bytes : List ℕ) → (end ≡ WriteFault → ⊥) → Waits first [] → PutsAs end first second bytes → WritesFront second third [] → WritesAs WriteFault first.written third.written bytes
failed_end Bye first second third bytes n none p q = lost first second third bytes [] none p q
failed_end (Thrown code) first second third bytes n none p q = lost first second third bytes [] none p q
failed_end (Spent taken) first second third bytes n none p q = lost first second third bytes [] none p q
failed_end InputTooLong first second third bytes n none p q = lost first second third bytes [] none p q
failed_end ReadFault first second third bytes n none p q = lost first second third bytes p.0 none p.1 q
failed_end WriteFault first second third bytes n none p q = absurd (n refl)
failed_end PairNotAllowed first second third bytes n none p q = lost_early first second third bytes none p q
failed_end (MadeFor pair) first second third bytes n none p q = lost_early first second third bytes none p q
failed_end NoMemory first second third bytes n none p q = lost_early first second third bytes none p q

-- how the run has ended is told by what is answered at the end
pub ends_so : (end result : RunEnd) (turns : ℕ) (told : ModelEnd) → (result ≡ end) ⊎ (result ≡ WriteFault) → EndsAs end turns told → EndsAs result turns told
ends_so end result turns told (inl e) h = subst (λ (r : RunEnd). EndsAs r turns told) (sym e) h
ends_so end result turns told (inr e) h = subst (λ (r : RunEnd). EndsAs r turns told) (sym e) tt

pub no_refusal : (end result : RunEnd) → (result ≡ end) ⊎ (result ≡ WriteFault) → (IsRefusal end → ⊥) → IsRefusal result → ⊥
no_refusal end result (inl e) n h = n (subst IsRefusal e h)
no_refusal end result (inr e) n h = subst IsRefusal e h

pub each_some : {A : Type 0} (o : Option A) (P Q : A → Type 0) → ((x : A) → P x → Q x) → IfSome o P → IfSome o Q
each_some None P Q step h = tt
each_some (Some x) P Q step h = step x h

-- a read fault stays one at the end, or the output fails then
pub still_read_fault : (end result : RunEnd) → (result ≡ end) ⊎ (result ≡ WriteFault) → result ≡ ReadFault → end ≡ ReadFault
still_read_fault end result (inl e) h = sym e ∙ h
still_read_fault end result (inr e) h = absurd (not_both_faults result e h)

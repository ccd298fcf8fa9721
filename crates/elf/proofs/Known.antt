-- What is known of a file once a rule is clear. Assumes nothing.
use Rattle.std.proofs.Common.{ℕ, ◌+◌, ◌*◌, ◌<◌, ◌≤◌, List, length, inl, inr, arith, lit<}
use Rattle.std.proofs.lemmas.Bool.{cases_lt}
use Rattle.faults.specs.Rules.{Clear}
use Rattle.faults.specs.declared.fault.Reason.TheVariants.{SegmentSize, SegmentEnd}
use Rattle.elf.specs.Layouts.{Sound}
use Rattle.elf.specs.Stages.{Headed, Readable, Bounded}
use Rattle.elf.specs.Segments.{phoff, phnum, header, headers, bad_length, bad_count, past_end, on_each, BadSize, BadEnd}
use Rattle.elf.specs.declared.layout.Layout.{Layout}

module _ (l : Layout) (bytes : List ℕ) where
  pub long : Clear (bad_length l bytes) → l.file.size ≤ length bytes
  long clear = elim (cases_lt (length bytes) l.file.size) [ inl short ↦ absurd (clear 0 (lit< tt) (inl short)) | inr enough ↦ enough ]

  pub short : Clear (bad_length l bytes) → length bytes ≤ l.limits.file
  short clear = elim (cases_lt l.limits.file (length bytes)) [ inl past ↦ absurd (clear 0 (lit< tt) (inr past)) | inr within ↦ within ]

  pub some : Clear (bad_count l bytes) → 0 < phnum l bytes
  some clear = elim (cases_lt 0 (phnum l bytes)) [ inl s ↦ s | inr none ↦ absurd (clear 0 (lit< tt) (inl (omega arith))) ]

  pub few : Clear (bad_count l bytes) → phnum l bytes ≤ l.limits.headers
  few clear = elim (cases_lt l.limits.headers (phnum l bytes)) [ inl many ↦ absurd (clear 0 (lit< tt) (inr many)) | inr s ↦ s ]

  pub inside : Clear (past_end l bytes) → phoff l bytes + l.header.size * phnum l bytes ≤ length bytes
  inside clear =
      elim (cases_lt (length bytes) (phoff l bytes + l.header.size * phnum l bytes)) [ inl past ↦ absurd (clear 0 (lit< tt) past) | inr s ↦ s ]

  pub headed : Sound l → Clear (bad_length l bytes) → Headed l bytes
  headed sound clear = record { sound = sound; long = long clear; short = short clear }

  pub readable : Headed l bytes → Clear (bad_count l bytes) → Clear (past_end l bytes) → Readable l bytes
  readable h n e = record { headed = h; few = few n; inside = inside e }

  pub bounded : Readable l bytes → Clear (on_each SegmentSize (headers l bytes) (BadSize l bytes)) → Clear (on_each SegmentEnd (headers l bytes) (BadEnd l bytes)) → Bounded l bytes
  bounded r sizes ends = record {
    readable = r;
    sizes = λ i within load.
        elim (cases_lt (length bytes) ((header l bytes i).offset + (header l bytes i).filesz)) [
          | inl past ↦ absurd (sizes i within (load, inr (inr past)))
          | inr s ↦ s
        ];
    ends = λ i within load.
        elim (cases_lt l.end ((header l bytes i).vaddr + (header l bytes i).memsz)) [ inl past ↦ absurd (ends i within (load, past)) | inr s ↦ s ];
  }

-- What is known of a file whose rules are clear, and the first fault of a file from that of one of its groups of rules. Assumes nothing.
use Rattle.std.proofs.Common.{◌≡◌, ℕ, List, ◌++◌, Ok, Err, Result, subst}
use Rattle.faults.specs.Rules.{Rule, First, AllClear, Answers, Tried}
use Rattle.faults.specs.declared.fault.Fault.{Fault}
use Rattle.faults.proofs.Families.{first_front, first_back, clear_front, clear_back, clear_both, tried_back}
use Rattle.elf.specs.Layouts.{Sound}
use Rattle.elf.specs.Segments.{identity_rules, kind_rules, size_rules, table_rules, segment_rules}
use Rattle.elf.specs.Stages.{Headed, Readable, Bounded, Extended}
use Rattle.elf.specs.Dynamic.{dynamic_rules, format_rules, relocation_rules, open_rules}
use Rattle.elf.specs.declared.layout.Layout.{Layout}
use Rattle.elf.proofs.Known.{headed, readable, bounded}
use Rattle.elf.proofs.Located.{extended}

-- What holds of two things holds of those that they equal.
pub carried : {A B : Type 0} (P : A → B → Type 0) {x y : A} {v w : B} → x ≡ y → v ≡ w → P x v → P y w
carried P {x = x} {w = w} e f p = subst (λ a. P a w) e (subst (P x) f p)

module _ (l : Layout) (b : List ℕ) where
  pub knows_header : Sound l → AllClear (identity_rules l b) → Headed l b
  knows_header sound clear = headed l b sound clear.0

  pub knows_table : Headed l b → AllClear (table_rules l b) → Readable l b
  knows_table h clear = readable l b h clear.0 clear.1.0

  pub knows_segments : Readable l b → AllClear (segment_rules l b) → Bounded l b
  knows_segments r clear = bounded l b r clear.0 clear.1.1.1.0

  pub knows_dynamic : Bounded l b → AllClear (dynamic_rules l b) → Extended l b
  knows_dynamic x clear = extended l b x clear.0

  -- The rules behind the identification, behind the kind, behind the sizes and behind the table of headers.
  abbrev behind1 : List Rule
  behind1 = kind_rules l b ++ (size_rules l b ++ (table_rules l b ++ (segment_rules l b ++ dynamic_rules l b)))

  abbrev behind2 : List Rule
  behind2 = size_rules l b ++ (table_rules l b ++ (segment_rules l b ++ dynamic_rules l b))

  abbrev behind3 : List Rule
  behind3 = table_rules l b ++ (segment_rules l b ++ dynamic_rules l b)

  abbrev behind4 : List Rule
  behind4 = segment_rules l b ++ dynamic_rules l b

  -- The groups of the rules up to that on the relocation table, each clear.
  pub record Groups : Type 0 where
    pub identity : AllClear (identity_rules l b)
    pub kind : AllClear (kind_rules l b)
    pub size : AllClear (size_rules l b)
    pub table : AllClear (table_rules l b)
    pub segments : AllClear (segment_rules l b)
    pub dynamic : AllClear (dynamic_rules l b)

  pub groups : AllClear (format_rules l b) → Groups
  unfolding format_rules
  groups clear =
      let a = clear_back (identity_rules l b) behind1 clear in
      let k = clear_back (kind_rules l b) behind2 a in
      let s = clear_back (size_rules l b) behind3 k in
      let t = clear_back (table_rules l b) behind4 s in
      record {
        identity = clear_front (identity_rules l b) behind1 clear;
        kind = clear_front (kind_rules l b) behind2 a;
        size = clear_front (size_rules l b) behind3 k;
        table = clear_front (table_rules l b) behind4 s;
        segments = clear_front (segment_rules l b) (dynamic_rules l b) t;
        dynamic = clear_back (segment_rules l b) (dynamic_rules l b) t;
      }

  -- A file whose rules up to that on the relocation table are clear.
  pub knows_all : Sound l → AllClear (format_rules l b) → Extended l b
  knows_all sound clear =
      let g = groups clear in
      knows_dynamic (knows_segments (knows_table (knows_header sound g.identity) g.table) g.segments) g.dynamic

  -- The rules on the header and on the table of program headers.
  abbrev pub header_rules : List Rule
  header_rules = kind_rules l b ++ (size_rules l b ++ table_rules l b)

  -- The first fault of one group, those before it clear.
  module _ (f : Fault) where
    pub at_identity : First (identity_rules l b) f → First (format_rules l b) f
    unfolding format_rules
    at_identity first = first_front (identity_rules l b) behind1 f first

    module _ (i : AllClear (identity_rules l b)) where
      pub at_header : First header_rules f → First (format_rules l b) f
      unfolding format_rules
      at_header first = first_back (identity_rules l b) behind1 f i (first_front header_rules behind4 f first)

      module _ (h : AllClear header_rules) where
        behind_header : First behind4 f → First (format_rules l b) f
        unfolding format_rules
        behind_header first = first_back (identity_rules l b) behind1 f i (first_back header_rules behind4 f h first)

        pub at_segments : First (segment_rules l b) f → First (format_rules l b) f
        at_segments first = behind_header (first_front (segment_rules l b) (dynamic_rules l b) f first)

        at_dynamic : AllClear (segment_rules l b) → First (dynamic_rules l b) f → First (format_rules l b) f
        at_dynamic g first = behind_header (first_back (segment_rules l b) (dynamic_rules l b) f g first)

  -- All groups are clear.
  all_clear : AllClear (identity_rules l b) → AllClear header_rules → AllClear (segment_rules l b) → AllClear (dynamic_rules l b) → AllClear (format_rules l b)
  unfolding format_rules
  all_clear i h g d = clear_both (identity_rules l b) behind1 i (clear_both header_rules behind4 h (clear_both (segment_rules l b) (dynamic_rules l b) g d))

  -- What the last check of the format answers, all groups before it clear.
  pub at_last : {X : Type 0} {P Q : X → Type 0} (r : Result X Fault) → AllClear (identity_rules l b) → AllClear header_rules → AllClear (segment_rules l b) → ((x : X) → P x → Q x) → Answers (dynamic_rules l b) P r → Answers (format_rules l b) Q r
  at_last (Ok x) i h g step d = (all_clear i h g d.0, step x d.1)
  at_last (Err f) i h g step d = at_dynamic f i h g d

  -- What the check of the relocations answers, the format clear.
  pub at_relocations : {X : Type 0} (r : Result X Fault) → AllClear (format_rules l b) → Tried (relocation_rules l b) r → Tried (open_rules l b) r
  unfolding open_rules
  at_relocations r clear rest = tried_back (format_rules l b) (relocation_rules l b) r clear rest

  pub at_format : (f : Fault) → First (format_rules l b) f → First (open_rules l b) f
  unfolding open_rules
  at_format f first = first_front (format_rules l b) (relocation_rules l b) f first

  -- The rules up to that on the relocation table, of a file whose rules are clear.
  pub format_clear : AllClear (open_rules l b) → AllClear (format_rules l b)
  unfolding open_rules
  format_clear clear = clear_front (format_rules l b) (relocation_rules l b) clear

  pub relocations_clear : AllClear (open_rules l b) → AllClear (relocation_rules l b)
  unfolding open_rules
  relocations_clear clear = clear_back (format_rules l b) (relocation_rules l b) clear

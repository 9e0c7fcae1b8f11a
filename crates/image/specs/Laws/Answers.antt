-- A reader's result, told by its number and by what is read where that is done, is the rules' answer. Assumes nothing.
use Rattle.std.specs.Prelude.{◌≡◌, refl, List, ℕ, Result, Ok, Err, IfOk}
use Rattle.std.proofs.Common.{ap, ◌∙◌, ne_eqb}
use Rattle.rules.specs.declared.Table.{Table}
use Rattle.rules.specs.declared.Marking.{Marking}
use Rattle.rules.specs.declared.refusal.Refusal.{Refusal}
use Rattle.rules.specs.Numbers.{done}
use Rattle.rules.specs.Holds.{empty_table, empty_marking}
use Rattle.rules.specs.Image.{table_image_number, table_in, read_table, marking_image_number, read_marking}
use Rattle.rules.specs.Results.{refusal_number, number_of, value_or, as_table, as_marking}
use Rattle.rules.proofs.Laws.Results.{refused_number}
use Rattle.image.specs.Parts.{records_in}

value_told : {A : Type 0} (result : Result A Refusal) (number : ℕ) (value refused : A) → number_of result ≡ number → IfOk result (λ a. a ≡ value)
    → value_or refused result ≡ done number value refused
value_told (Ok a) number value refused n v = rw (← n) v
value_told (Err refusal) number value refused n v = rw (← n, ne_eqb _ 0 (refused_number refusal)) refl

pub table_told : (image : List ℕ) (result : Result Table Refusal) → number_of result ≡ table_image_number image
    → IfOk result (λ t. t ≡ table_in image) → as_table result ≡ read_table image
unfolding read_table
table_told image result n v =
    let t = value_told result (table_image_number image) (table_in image) empty_table n v in
    ap (λ (table : Table). record { table = table; number = number_of result }) t
    ∙ ap (λ (number : ℕ). record { table = (read_table image).table; number = number }) n

pub table_refused : (image : List ℕ) (refusal : Refusal) → refusal_number refusal ≡ table_image_number image → as_table (Err refusal) ≡ read_table image
table_refused image refusal n = table_told image (Err refusal) n tt

pub marking_told : (events : ℕ) (image : List ℕ) (result : Result Marking Refusal) → number_of result ≡ marking_image_number events image
    → IfOk result (λ m. m ≡ records_in events image) → as_marking empty_marking result ≡ read_marking events image
unfolding read_marking
marking_told events image result n v =
    let m = value_told result (marking_image_number events image) (records_in events image) empty_marking n v in
    ap (λ (marking : Marking). record { marking = marking; number = number_of result }) m
    ∙ ap (λ (number : ℕ). record { marking = (read_marking events image).marking; number = number }) n

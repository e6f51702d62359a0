-- Worked shapes: what the definitions give for small arrays, and at their limits.
use Rattle.std.specs.Prelude.{◌≡◌, ℕ, ℤ, pos, negsuc, true, false, [], ◌∷◌, Some, None, refl}
use Rattle.hep_machine.specs.declared.shape.Bound.{Bound}
use Rattle.hep_machine.specs.Words.{Bounds, is_shape, elements, element_number, counted_element, fits}

between : ℤ → ℤ → Bound
between l u = record { lower = l; upper = Some u }

to : ℕ → Bound
to u = between (pos 1) (pos u)

open_from : ℤ → Bound
open_from l = record { lower = l; upper = None }

-- ---- A(1:3,1:2): six elements, by columns

three_by_two : Bounds
three_by_two = to 3 ∷ to 2 ∷ []

six_elements : elements three_by_two ≡ Some 6
unfolding three_by_two to between
six_elements = refl

second_column : element_number three_by_two (pos 2 ∷ pos 2 ∷ []) ≡ Some 5
unfolding three_by_two to between
second_column = refl

last_element : element_number three_by_two (pos 3 ∷ pos 2 ∷ []) ≡ Some 6
unfolding three_by_two to between
last_element = refl

past_a_bound : element_number three_by_two (pos 4 ∷ pos 1 ∷ []) ≡ None
unfolding three_by_two to between
past_a_bound = refl

one_subscript : element_number three_by_two (pos 1 ∷ []) ≡ None
unfolding three_by_two to between
one_subscript = refl

-- ---- A(0:2,-1:1): other lower bounds

around_zero : Bounds
around_zero = between (pos 0) (pos 2) ∷ between (negsuc 0) (pos 1) ∷ []

lowest_is_first : element_number around_zero (pos 0 ∷ negsuc 0 ∷ []) ≡ Some 1
unfolding around_zero between
lowest_is_first = refl

highest_is_ninth : element_number around_zero (pos 2 ∷ pos 1 ∷ []) ≡ Some 9
unfolding around_zero between
highest_is_ninth = refl

-- ---- A(2,*): no number of elements, and no element past 1,048,576

open_rows : Bounds
open_rows = to 2 ∷ open_from (pos 1) ∷ []

no_number_of_elements : elements open_rows ≡ None
unfolding open_rows open_from to between
no_number_of_elements = refl

element_of_an_open_array : element_number open_rows (pos 2 ∷ pos 1000 ∷ []) ≡ Some 2000
unfolding open_rows open_from to between
element_of_an_open_array = refl

far_element : element_number open_rows (pos 1 ∷ pos 600000 ∷ []) ≡ Some 1199999
unfolding open_rows open_from to between
far_element = refl

far_element_is_not_counted : counted_element open_rows (pos 1 ∷ pos 600000 ∷ []) ≡ None
unfolding open_rows open_from to between
far_element_is_not_counted = refl

last_counted_element : counted_element open_rows (pos 2 ∷ pos 524288 ∷ []) ≡ Some 1048576
unfolding open_rows open_from to between
last_counted_element = refl

-- ---- which bounds are a shape

large_and_open : is_shape (to 2000000 ∷ open_from (pos 1) ∷ []) ≡ true
unfolding open_from to between
large_and_open = refl

too_large : is_shape (to 2000000 ∷ []) ≡ false
unfolding to between
too_large = refl

largest : is_shape (to 1048576 ∷ []) ≡ true
unfolding to between
largest = refl

one_too_many : is_shape (to 1048577 ∷ []) ≡ false
unfolding to between
one_too_many = refl

upper_below_lower : is_shape (between (pos 2) (pos 1) ∷ []) ≡ false
unfolding between
upper_below_lower = refl

open_before_the_last : is_shape (open_from (pos 1) ∷ to 2 ∷ []) ≡ false
unfolding open_from to between
open_before_the_last = refl

no_dimension : is_shape [] ≡ false
no_dimension = refl

seven_dimensions : is_shape (to 1 ∷ to 1 ∷ to 1 ∷ to 1 ∷ to 1 ∷ to 1 ∷ to 1 ∷ []) ≡ true
unfolding to between
seven_dimensions = refl

eight_dimensions : is_shape (to 1 ∷ to 1 ∷ to 1 ∷ to 1 ∷ to 1 ∷ to 1 ∷ to 1 ∷ to 1 ∷ []) ≡ false
unfolding to between
eight_dimensions = refl

-- ---- what a dummy array may be bound to

six_fit_in_six : fits three_by_two 6 ≡ true
unfolding three_by_two to between
six_fit_in_six = refl

six_do_not_fit_in_five : fits three_by_two 5 ≡ false
unfolding three_by_two to between
six_do_not_fit_in_five = refl

open_fits_anywhere : fits open_rows 0 ≡ true
unfolding open_rows open_from to between
open_fits_anywhere = refl

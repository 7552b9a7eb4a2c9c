-- Laws, in the order in which they rest on one another.
--   Ancestor, Depth, Component                 any forest: steps up, roots, components
--   PostOrder, Size, Rank                      any forest: post-order, ranks from sizes, each window once
--   Agreement                                  two parent functions that agree on the windows
--   Last, Parent, Monotone                     the forest of an overlap test in interval order
--   Chains, Climb, Walk, ShortestChain         chains, and that the one written is the earliest shortest
--   Before                                     the order of ranks
--   Level, Rule                                that the rule on two windows' numbers gives the least count
--   Bounds, Reach, Sameness                    how great the numbers become, and what they say of the whole
--   Farthest, Greatest                         reach: the definition and its meaning, and how it is had without looking at pairs
--   Cut                                        what a window's numbers do not depend on
--   Outcome                                    the rule on any two windows' numbers, in either order
--   Even                                       where lasts do not fall, the rule on short tags says the same
--   Plan12                                     the worked example, by computation
pub mod Ancestor
pub mod Depth
pub mod Component
pub mod PostOrder
pub mod Size
pub mod Rank
pub mod Agreement
pub mod Last
pub mod Parent
pub mod Monotone
pub mod Chains
pub mod Climb
pub mod Walk
pub mod ShortestChain
pub mod Before
pub mod Level
pub mod Rule
pub mod Bounds
pub mod Reach
pub mod Farthest
pub mod Greatest
pub mod Sameness
pub mod Cut
pub mod Outcome
pub mod Even
pub mod Plan12
